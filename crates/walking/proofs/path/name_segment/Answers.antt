-- A name's number is below the indices. Assumes nothing.
use Rattle.walking.proofs.PathLaws.{segment_name}
use borrow.Author.Rules.{rules}
use Rattle.walking.proofs.path.name_segment.Goals as goal

pub returns : goal.returns
returns c = segment_name c.args.number (search rules)
