-- From the last set on: those passed hold, and one that does not ends the search. Assumes nothing.
use mathlib.Core.Path.{◌≡◌}
use mathlib.Core.Bool.{true}
use Prim.Native.Nat.{ℕ, ◌≤◌, ◌<◌}
use Rattle.rows.specs.Layout.{set_width}
use Rattle.rows.specs.Rows.{rows_of}
use Rattle.tables.specs.ByTable.{set_holds, Skips}
use Rattle.tables.proofs.document.each_set_holds.Given as goal

abbrev pub invariant-loop-set : goal.invariant-loop-set
invariant-loop-set l = (l.set ≤ rows_of l.sets set_width) × Skips l.selections l.set l.skips × ((k : ℕ) → l.set ≤ k → k < rows_of l.sets set_width → set_holds l.sets l.selections k ≡ true)
