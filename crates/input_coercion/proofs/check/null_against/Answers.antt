-- A variable's node is null or another. Assumes nothing.
use Rattle.input_coercion.proofs.Leaves.{against}
use Rattle.input_coercion.proofs.check.null_against.Goals as goal

pub returns-in-Null : goal.returns-in-Null
returns-in-Null c = search against

pub returns-in_default : goal.returns-in_default
returns-in_default c = search against
