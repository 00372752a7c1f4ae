-- The numbers are the reserved names of the definition. Assumes nothing.
use mathlib.Core.Path.{refl, ◌∙◌}
use native.Mathlib.Omega.{arith}
use Rattle.completing.proofs.Leaves.{scalar_boolean, scalar_float, scalar_id, scalar_int, scalar_other, scalar_string}
use Rattle.values.specs.declared.sort.Sort.TheVariants as sort
use Rattle.completing.proofs.Sorts.{sames}
use Rattle.completing.proofs.result_coercion.scalar_takes.Goals as goal

pub returns-in-1 : goal.returns-in-1
returns-in-1 c = scalar_int c.in-1.is c.int_takes.ensures

pub returns-in-2 : goal.returns-in-2
returns-in-2 c = scalar_float c.fits.ensures c.in-2.is (c.eq.ensures ∙ sames sort.Float _)

pub returns-in-3 : goal.returns-in-3
returns-in-3 c = scalar_string c.fits-in-3.ensures c.in-3.is (c.eq-in-3.ensures ∙ sames sort.String _)

pub returns-in-4 : goal.returns-in-4
returns-in-4 c = scalar_boolean c.fits-in-4.ensures c.in-4.is (c.eq-in-4.ensures ∙ sames sort.Boolean _)

pub returns-in-5 : goal.returns-in-5
returns-in-5 c = scalar_id c.fits-in-5.ensures c.in-5.is c.id_takes.ensures

pub returns-in_default : goal.returns-in_default
returns-in_default c = scalar_other (λ e. omega arith) (λ e. omega arith) (λ e. omega arith) (λ e. omega arith) (λ e. omega arith) refl
