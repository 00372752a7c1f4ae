-- There is a default, or the argument is missing, or it may be. Assumes nothing.
use Rattle.input_coercion.proofs.Arguing.{defaults}
use Rattle.input_coercion.proofs.arguments.default_argument.Goals as goal

pub returns-then-is_non_null : goal.returns-then-is_non_null
returns-then-is_non_null c = search defaults

pub returns-in-Some : goal.returns-in-Some
returns-in-Some c = search defaults

pub returns-else-is_non_null : goal.returns-else-is_non_null
returns-else-is_non_null c = search defaults
