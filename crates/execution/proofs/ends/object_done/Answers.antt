-- Null for the object, then the entry. Assumes nothing.
use borrow.Author.Rules.{rules}
use Rattle.execution.proofs.Ending.{object_ends}
use Rattle.execution.proofs.ends.object_done.Goals as goal

pub returns : goal.returns
returns c = search (object_ends, rules)
