use mathlib.Core.Path.{◌≡◌}
use mathlib.Core.Bool.{Bool}
use Prim.Native.Nat.{ℕ, ◌≤◌}
use Rattle.tables.proofs.Looked.{Passed}
use Rattle.tables.proofs.data.look_at_rows.Given as goal

abbrev pub invariant-loop-row : goal.invariant-loop-row
invariant-loop-row g l = (l.row ≤ l.count)
    × ((p q : ℕ → Bool) → ((row : ℕ) (b : Bool) → goal.H-post g l.holds row b → b ≡ p row) → ((row : ℕ) (b : Bool) → goal.P-post g l.is_plain row b → b ≡ q row) → Passed p q l.row l.plain)
