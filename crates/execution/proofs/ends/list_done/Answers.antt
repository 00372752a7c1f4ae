-- Null for the list, then for the place around it, then the entry. Assumes nothing.
use borrow.Author.Rules.{rules}
use Rattle.execution.proofs.Ending.{list_ends}
use Rattle.execution.proofs.ends.list_done.Goals as goal

pub returns : goal.returns
returns c = search (list_ends, rules)
