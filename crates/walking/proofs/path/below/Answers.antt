-- The word behind those that are counted is written, and counted. Assumes nothing.
use Rattle.walking.proofs.PathLaws.{path_below}
use borrow.Author.Rules.{rules}
use Rattle.walking.proofs.path.below.Goals as goal

pub returns : goal.returns
returns c = (path_below c.args.path.segments c.args.path.count c.args.segment (search rules), search rules)
