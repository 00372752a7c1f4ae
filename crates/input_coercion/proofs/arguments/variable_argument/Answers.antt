-- The variable is absent, null or another. Assumes nothing.
use Rattle.input_coercion.proofs.Arguing.{variabled}
use Rattle.input_coercion.proofs.arguments.variable_argument.Goals as goal

pub returns-in_default : goal.returns-in_default
returns-in_default c = search variabled

pub returns-then-null_against : goal.returns-then-null_against
returns-then-null_against c = search variabled

pub returns : goal.returns
returns c = search variabled
