-- By what was given. Assumes nothing.
use Rattle.resolving.proofs.Behind.{completes_leaf, completes_list, completes_object}
use borrow.Author.Rules.{rules}
use Rattle.resolving.proofs.field.complete_value.Goals as goal

ruleset completing = (completes_leaf, completes_list, completes_object, rules)

pub returns-in-Leaf : goal.returns-in-Leaf
returns-in-Leaf c = search completing

pub returns-in-List : goal.returns-in-List
returns-in-List c = search completing

pub returns-in-Object : goal.returns-in-Object
returns-in-Object c = search completing
