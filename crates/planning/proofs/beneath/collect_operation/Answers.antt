-- The operation has the first set. Assumes nothing.
use Rattle.planning.proofs.Merged.{operation}
use borrow.Author.Rules.{rules}
use Rattle.planning.proofs.beneath.collect_operation.Goals as goal

pub returns-clause-collects : goal.returns-clause-collects
returns-clause-collects c = search (operation, rules)
