-- Null where it failed, and then an entry. Assumes nothing.
use Rattle.resolving.proofs.Stepping.{finishing}
use borrow.Author.Rules.{rules}
use Rattle.resolving.proofs.field.finished.Goals as goal

pub returns : goal.returns
returns c = search (finishing, rules)
