-- By the kind of the type. Assumes nothing.
use Rattle.completing.proofs.Leaves.{at_composite, at_input, at_scalar, at_unknown}
use Rattle.completing.proofs.result_coercion.Completer.leaf_at.Goals as goal

pub returns-in-Scalar : goal.returns-in-Scalar
returns-in-Scalar c = rw (← c.type_at-def.ensures, c.in-Scalar.is)
    (at_scalar _ _ _ _ c.type_at-def.ensures c.scalar_takes.ensures)

pub returns-in-Enum : goal.returns-in-Enum
returns-in-Enum c = rw (← c.type_at-def.ensures, c.in-Enum.is) c.enum_takes.ensures

pub returns-in-InputObject : goal.returns-in-InputObject
returns-in-InputObject c = rw (← c.type_at-def.ensures, c.in-InputObject.is) (at_input _ _ _ _)

pub returns-in-Unknown : goal.returns-in-Unknown
returns-in-Unknown c = rw (← c.type_at-def.ensures, c.in-Unknown.is) (at_unknown _ _ _ _)

pub returns-in_default : goal.returns-in_default
returns-in_default c = rw (← c.type_at-def.ensures)
    (at_composite _ _ _ _ _ c.in_default.not-Scalar c.in_default.not-Enum c.in_default.not-InputObject c.in_default.not-Unknown)
