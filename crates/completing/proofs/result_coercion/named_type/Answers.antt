-- By the reference, and by what is found of its name. Assumes nothing.
use Rattle.completing.proofs.Types.{ref_named, ref_list, ref_unknown}
use Rattle.completing.proofs.result_coercion.named_type.Goals as goal

pub returns-in-Named : goal.returns-in-Named
returns-in-Named c = rw c.ok_or.ensures.value (ref_named _ _ c.type_ref_at.ensures c.in-Named.is _ c.type_named.ensures)

pub returns-in-ListOf : goal.returns-in-ListOf
returns-in-ListOf c = ref_list _ _ c.type_ref_at.ensures c.in-ListOf.is

pub returns-in-Unknown : goal.returns-in-Unknown
returns-in-Unknown c = ref_unknown _ _ c.type_ref_at.ensures c.in-Unknown.is
