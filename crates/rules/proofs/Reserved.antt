-- Rows past the twelve reserved names may have any. Assumes nothing.
use mathlib.Core.Path.{◌≡◌, refl}
use mathlib.Core.Bool.{true}
use mathlib.Core.List.{List, [], ◌∷◌}
use Rattle.std.specs.Prelude.{None}
use Prim.Native.Nat.{ℕ, zero, suc, ◌≤◌}
use native.Mathlib.Nat.{not-suc-le-zero, le_of_suc-le-suc}
use lib.ListN.{length}
use Rattle.std.specs.Prelude.{slice_get}
use Rattle.rows.specs.Names.{reserved}
use Rattle.rules.specs.Names.{reserved_as}

past_end : {A : Type 0} (l : List A) (i : ℕ) → length l ≤ i → slice_get l i ≡ None
past_end [] i h = refl
past_end (x ∷ l) zero h = absurd (not-suc-le-zero h)
past_end (x ∷ l) (suc i) h = past_end l i (le_of_suc-le-suc h)

pub past_reserved : (row : ℕ) (name : List ℕ) → 12 ≤ row → true ≡ reserved_as row name
past_reserved row name h = rw (past_end reserved row h)
