-- `__typename`, a field that is there, or none. Assumes nothing.
use Rattle.planning.proofs.Expecting.{defining}
use borrow.Author.Rules.{rules}
use Rattle.planning.proofs.groups.definition_of.Goals as goal

pub returns-then-name-eq-TYPENAME_NAME : goal.returns-then-name-eq-TYPENAME_NAME
returns-then-name-eq-TYPENAME_NAME c = search (defining, rules)

pub overflow_cast-result : goal.overflow_cast-result
overflow_cast-result c = search (defining, rules)

pub overflow_add-result : goal.overflow_add-result
overflow_add-result c = search (defining, rules)

pub returns-in-None : goal.returns-in-None
returns-in-None c = search (defining, rules)

pub returns-in-Some : goal.returns-in-Some
returns-in-Some c = search (defining, rules)
