-- A string that is the name of a value. Assumes nothing.
use mathlib.Core.Path.{◌∙◌}
use Rattle.values.specs.declared.sort.Sort.TheVariants as sort
use Rattle.completing.proofs.Leaves.{enum_other, enum_string}
use Rattle.completing.proofs.Sorts.{sames}
use Rattle.completing.proofs.result_coercion.Completer.enum_takes.Goals as goal
use Rattle.completing.proofs.result_coercion.Completer.enum_takes.Goals.{else-eq-via-then-eq+else-has_value, else-eq-via-else-eq}

pub has_value-requires : goal.has_value-requires
has_value-requires c = c.args.self.listed.within _

pub returns-then-has_value : goal.returns-then-has_value
returns-then-has_value c = enum_string _ _ _ _ (c.eq.ensures ∙ sames sort.String _) c.if-eq.true c.has_value.ensures (rw c.if-has_value.true)

pub returns : goal.returns
returns c = elim c.else-eq.branch [
  | else-eq-via-then-eq+else-has_value w ↦ enum_string _ _ _ _ (c.eq.ensures ∙ sames sort.String _) w.if-eq.true w.has_value.ensures (rw w.if-has_value.false)
  | else-eq-via-else-eq w ↦ enum_other _ _ _ _ (c.eq.ensures ∙ sames sort.String _) w.if-eq.false
]
