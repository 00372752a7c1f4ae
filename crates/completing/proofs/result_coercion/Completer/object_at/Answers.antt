-- By the kind of the type. Assumes nothing.
use Rattle.completing.proofs.Types.{object_input, object_leaf, object_own, object_unknown}
use Rattle.completing.proofs.result_coercion.Completer.object_at.Goals as goal

pub returns-in-Scalar : goal.returns-in-Scalar
returns-in-Scalar c = rw (← c.type_at-def.ensures) (object_leaf _ _ _ c.in-Scalar.is)

pub returns-in-Object : goal.returns-in-Object
returns-in-Object c = rw (← c.type_at-def.ensures, c.in-Object.is)
    (object_own _ _ c.type_at-def.ensures c.in-Object.is c.only_if.ensures)

pub returns-in-Interface : goal.returns-in-Interface
returns-in-Interface c = rw (← c.type_at-def.ensures, c.in-Interface.is) c.implementing.ensures

pub returns-in-Union : goal.returns-in-Union
returns-in-Union c = rw (← c.type_at-def.ensures, c.in-Union.is) c.member_of.ensures

pub returns-in-InputObject : goal.returns-in-InputObject
returns-in-InputObject c = rw (← c.type_at-def.ensures, c.in-InputObject.is) (object_input _ _)

pub returns-in-Unknown : goal.returns-in-Unknown
returns-in-Unknown c = rw (← c.type_at-def.ensures, c.in-Unknown.is) (object_unknown _ _)
