-- Four items of a text, named by their places. Assumes nothing.
use mathlib.Core.Path.{◌≡◌}
use mathlib.Core.List.{List, [], ◌∷◌}
use Prim.Native.Nat.{ℕ, suc, ◌+◌, ◌≤◌, ◌<◌}
use native.Mathlib.Omega.{arith}
use lib.ListN.{length, take, drop, get_or}
use lib.Seq.{drop-cons}

-- where they are there, they are the first four from the place on
pub four_at : (s : List ℕ) (r : ℕ) → r + 4 ≤ length s → take 4 (drop r s) ≡ get_or s r 0 ∷ get_or s (r + 1) 0 ∷ get_or s (r + 2) 0 ∷ get_or s (r + 3) 0 ∷ []
four_at s r h =
    let e₁ : r + 1 ≡ suc r = omega arith in
    let e₂ : r + 2 ≡ suc (suc r) = omega arith in
    let e₃ : r + 3 ≡ suc (suc (suc r)) = omega arith in
    let h₀ : r < length s = omega arith in
    let h₁ : suc r < length s = omega arith in
    let h₂ : suc (suc r) < length s = omega arith in
    let h₃ : suc (suc (suc r)) < length s = omega arith in
    rw (e₁, e₂, e₃, drop-cons s r 0 h₀, drop-cons s (suc r) 0 h₁, drop-cons s (suc (suc r)) 0 h₂, drop-cons s (suc (suc (suc r))) 0 h₃)
