-- The argument is not given, or it is given as null, as a variable or as another literal. Assumes nothing.
use Rattle.input_coercion.proofs.Arguing.{arguing}
use Rattle.input_coercion.proofs.arguments.coerce_argument.Goals as goal

pub returns-in_default : goal.returns-in_default
returns-in_default c = search arguing

pub returns-then-is_non_null : goal.returns-then-is_non_null
returns-then-is_non_null c = search arguing

pub returns-else-is_non_null : goal.returns-else-is_non_null
returns-else-is_non_null c = search arguing

pub returns-in-Variable : goal.returns-in-Variable
returns-in-Variable c = search arguing

pub returns-in-Shaped : goal.returns-in-Shaped
returns-in-Shaped c = search arguing
