-- Sizes stay within their bounds when one of them is set to a number within its own, and what is held is so little that it is counted without
-- wrapping. Assumes nothing.
use Prim.Native.Nat.{ℕ, suc, zero, ◌*◌, ◌<◌, ◌≤◌}
use mathlib.Core.Path.{◌≡◌}
use mathlib.Core.List.{List, [], ◌∷◌}
use native.Mathlib.Nat.{mul-le-mul}
use native.Mathlib.Omega.{arith}
use lib.ListN.{length, get_or, set, replicate, length-take}
use lib.Seq.{get_or-set_other}
use Rattle.std.specs.Prelude.{Option, Some, None, IfSome, sum}
use Rattle.std.proofs.lemmas.Grind.{common_steps}
use Rattle.rows.specs.Layout.{name_width}
use Rattle.rows.specs.Rows.{rows_of}
use Rattle.table_file.specs.Sizes.{Within, widths, width_of}
use Rattle.table_file.specs.Held.{table_of}

-- what bounds an element and what is stored bounds the element after the store
pub set_below :
    (s : List ℕ) (k j v b : ℕ) → v ≤ b → get_or s j 0 ≤ b → get_or (set s k v) j 0 ≤ b
set_below [] k j v b hv h = h
set_below (x ∷ s) zero zero v b hv h = hv
set_below (x ∷ s) zero (suc j) v b hv h = h
set_below (x ∷ s) (suc k) zero v b hv h = h
set_below (x ∷ s) (suc k) (suc j) v b hv h = set_below s k j v b hv h

-- a store to a table's size
pub table-set :
    (s : List ℕ) (k v : ℕ) → Within s → 0 < k → v ≤ 20640 → Within (set s k v)
table-set s k v w hk hv =
    record {
      pool = rw (get_or-set_other s k 0 v 0 (λ e. omega arith)) w.pool;
      tables = λ j hj. set_below s k j v 20640 hv (w.tables j hj);
    }

-- a store to the pool's size
pub pool_set : (s : List ℕ) (v : ℕ) → Within s → v ≤ 69632 → Within (set s 0 v)
pool_set s v w hv =
    record {
      pool = set_below s 0 0 v 69632 hv w.pool;
      tables = λ j hj. rw (get_or-set_other s 0 j v 0 (λ e. omega arith)) (w.tables j hj);
    }

zeros_below : (n k b : ℕ) → get_or (replicate n 0) k 0 ≤ b
zeros_below zero k b = omega arith
zeros_below (suc n) zero b = omega arith
zeros_below (suc n) (suc k) b = zeros_below n k b

-- where nothing is held, each size is within its bound
pub nothing_held : (n : ℕ) → Within (replicate n 0)
nothing_held n = record { pool = zeros_below n 0 69632; tables = λ k h. zeros_below n k 20640 }

table_short : (words sizes : List ℕ) (k : ℕ) → Within sizes → 0 < k → length (table_of words sizes k) ≤ 20640
unfolding table_of
table_short words sizes k w h = simp length-take (omega (arith, w.tables k h))

-- a row among the names is a small number
pub few_names :
    (words sizes names : List ℕ) (row : ℕ) → Within sizes → names ≡ table_of words sizes 1 → row ≤ rows_of names name_width → row ≤ 10320
unfolding rows_of
few_names words sizes names row w e h =
    let l : length names ≤ 20640 = rw e (table_short words sizes 1 w (omega arith)) in
    omega arith

-- and so is one that was found
pub few_found :
    (words sizes names : List ℕ) (found : Option ℕ) → Within sizes → names ≡ table_of words sizes 1
    → IfSome found (λ row. row < rows_of names name_width) → IfSome found (λ row. row ≤ 10320)
few_found words sizes names None w e h = h
few_found words sizes names (Some row) w e h = few_names words sizes names row w e (omega (arith, h))

-- so many words or bytes, as often as a word can say, are counted without wrapping
pub copies_fit : (count times : ℕ) → count ≤ 69632 → times ≤ 4294967295 → count * times < 18446744073709551616
copies_fit count times h k = omega (arith, mul-le-mul h k)

below_sum : (xs : List ℕ) (k : ℕ) → get_or xs k 0 ≤ sum xs
below_sum [] k = omega arith
below_sum (x ∷ xs) zero = grind (arith, common_steps)
below_sum (x ∷ xs) (suc k) = grind (arith, common_steps, below_sum xs k)

-- where a row begins is counted without wrapping
pub row_fits : (number row : ℕ) → row ≤ 4294967295 → width_of number * row < 18446744073709551616
unfolding width_of
row_fits number row h =
    let narrow : get_or widths number 0 ≤ 57 = below_sum widths number in
    omega (arith, mul-le-mul narrow h)
