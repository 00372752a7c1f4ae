-- A number that is none of the first n, one behind the other, is n or more. Assumes nothing.
use mathlib.Core.Path.{◌≡◌}
use Prim.Native.Nat.{ℕ, zero, suc, ◌≤◌}
use native.Mathlib.Omega.{arith}
use Rattle.tables.proofs.Numbered.{past}

-- k is none of the first n numbers
abbrev NoneOf : ℕ → ℕ → Type 0
NoneOf zero k = Unit {0}
NoneOf (suc n) k = NoneOf n k × (k ≡ n → ⊥)

-- so it is n or more
pub past_all : (n k : ℕ) → NoneOf n k → n ≤ k
past_all zero k r = omega arith
past_all (suc n) k r = omega (arith, past n k (past_all n k r.0) r.1)
