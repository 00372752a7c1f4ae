-- To the group that has the key, or to a new one. Assumes nothing.
use borrow.Author.Rules.{rules}
use Rattle.planning.proofs.Grouped.{putting}
use Rattle.planning.proofs.groups.put_field.Goals as goal

pub returns-in-Some : goal.returns-in-Some
returns-in-Some c = search (putting, rules)

pub returns : goal.returns
returns c = search (putting, rules)
