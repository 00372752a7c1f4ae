-- The variable is absent, null or another. Assumes nothing.
use Rattle.input_coercion.proofs.Variables.{inner}
use Rattle.input_coercion.proofs.check.coerce_variable.Goals as goal

pub returns-then-is_non_null : goal.returns-then-is_non_null
returns-then-is_non_null c = search inner

pub returns-then-null_against : goal.returns-then-null_against
returns-then-null_against c = search inner

pub returns-else-is_non_null : goal.returns-else-is_non_null
returns-else-is_non_null c = search inner

pub returns-else-null_against : goal.returns-else-null_against
returns-else-null_against c = search inner
