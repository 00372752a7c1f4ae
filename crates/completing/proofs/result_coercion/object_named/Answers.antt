-- The type that is found, if its kind is that of objects. Assumes nothing.
use Rattle.completing.proofs.Types.{object_absent, object_other, object_there}
use Rattle.completing.proofs.result_coercion.object_named.Goals as goal

pub returns-in_err-row : goal.returns-in_err-row
returns-in_err-row c = rw c.from_residual.ensures (object_absent _ c.type_named.ensures c.in_err-row.was)

pub returns-in-Object : goal.returns-in-Object
returns-in-Object c = object_there _ c.type_named.ensures c.in_ok-row.was c.type_at.ensures c.in-Object.is

pub returns-in_default : goal.returns-in_default
returns-in_default c = object_other _ c.type_named.ensures c.in_ok-row.was c.type_at.ensures c.in_default.not-Object
