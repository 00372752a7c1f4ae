-- Each answer is what the definition's resolver gives. Assumes nothing.
use Rattle.resolving.proofs.Taking.{row_skip, row_error, row_leaf, row_list, row_object, row_echo, row_unknown}
use Rattle.resolving.proofs.resolve.resolve_row.Goals as goal

pub returns-in-Skip : goal.returns-in-Skip
returns-in-Skip c = search row_skip

pub returns-in-Error : goal.returns-in-Error
returns-in-Error c = search row_error

pub returns-in-Leaf : goal.returns-in-Leaf
returns-in-Leaf c = search row_leaf

pub returns-in-List : goal.returns-in-List
returns-in-List c = search row_list

pub returns-in-Object : goal.returns-in-Object
returns-in-Object c = search row_object

pub returns-in-Echo : goal.returns-in-Echo
returns-in-Echo c = search row_echo

pub returns-in-Unknown : goal.returns-in-Unknown
returns-in-Unknown c = search row_unknown
