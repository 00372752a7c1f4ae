-- The mark of the row's word says whether it is new, and is set then; a word that has no mark is looked for. Assumes nothing.
use mathlib.Core.Path.{◌∙◌}
use Prim.Native.Nat.{◌≤◌, ◌<◌}
use native.Mathlib.Omega.{arith}
use Rattle.rules.proofs.MetWords.{met_new, met_one, met_past}
use Rattle.rules.proofs.layout.is_new_by_marks.Goals as goal

pub returns-in-Some : goal.returns-in-Some
returns-in-Some c =
    let told = c.in-Some.ensures in
    let small : c.cell-word.result < 512 = omega (arith, told.0, c.requires.met.sized) in
    record {
      value = told.1 ∙ met_new _ _ _ _ _ _ c.requires.met c.cell-word.result c.cell-word.ensures small;
      met_2 = rw told.2 (met_one _ _ _ _ _ _ c.requires.met c.cell-word.result c.cell-word.ensures small);
    }

pub returns-in-None : goal.returns-in-None
returns-in-None c =
    let past = c.in-None.ensures in
    let large : 512 ≤ c.cell-word.result = omega (arith, past.0, c.requires.met.sized) in
    record { value = c.is_new.ensures; met_2 = rw past.1 (met_past _ _ _ _ _ _ c.requires.met (rw c.cell-word.ensures at large)) }
