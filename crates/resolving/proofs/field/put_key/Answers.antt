-- The three parts one after another. Assumes nothing.
use Rattle.resolving.proofs.Stepping.{put_keyed}
use borrow.Author.Rules.{rules}
use Rattle.resolving.proofs.field.put_key.Goals as goal

pub returns : goal.returns
returns c = search (put_keyed, rules)
