-- A string that is written block by block: where the blocks stand in it, and what is left behind the last. Assumes nothing.
use mathlib.Core.Path.{◌≡◌, sym, ap, ◌∙◌}
use mathlib.Core.List.{List, ◌++◌}
use Prim.Native.Nat.{ℕ, zero, suc, ◌+◌, ◌*◌, ◌-◌, ◌/◌, ◌≤◌, ◌<◌}
use native.Mathlib.Nat.{le_trans, mul-le-mul_right, div-mul-le_self, suc-mul}
use native.Mathlib.Numerals.{add-one}
use native.Mathlib.Omega.{arith}
use lib.ListN.{length, take, drop, get_or, length-drop}
use lib.Seq.{take_all, drop-drop}
use Rattle.std.specs.Simd.{first_chunks}
use Rattle.writing.specs.Wrote.{Writes}
use Rattle.writing.proofs.WritesLaws.{same}
use Rattle.writing.proofs.Putting.{Putting, put_part, put_rest}

-- the block with number i of the first k
chunk_at : (n k i : ℕ) (s d : List ℕ) → i < k → get_or (first_chunks n k s) i d ≡ take n (drop (i * n) s)
chunk_at n zero i s d h = absurd (omega arith)
chunk_at n (suc k) zero s d h = let none : 0 * n ≡ 0 = omega arith in rw none
chunk_at n (suc k) (suc i) s d h =
    let further : n + i * n ≡ suc i * n = omega (arith, suc-mul i n) in
    chunk_at n k i (drop n s) d (omega arith) ∙ ap (λ (l : List ℕ). take n l) (drop-drop (i * n) n s ∙ ap (λ (m : ℕ). drop m s) further)

module _ {whole : List ℕ → List ℕ} {text₀ s text text' : List ℕ} {at next next' i : ℕ} (joins : (xs ys : List ℕ) → whole (xs ++ ys) ≡ whole xs ++ whole ys) (n : ℕ)
    {blocks : List (List ℕ)} (cut : blocks ≡ first_chunks n (length s / n) s) (g : Putting whole text₀ at s text next (i * n)) where
  -- the next block is written
  pub put_chunk : (d : List ℕ) → i < length s / n → Writes text text' next next' (whole (get_or blocks i d)) → Putting whole text₀ at s text' next' ((i + 1) * n)
  put_chunk d h w =
      let further : i * n + n ≡ suc i * n = omega (arith, suc-mul i n) in
      let within : suc i * n ≤ length s = le_trans (mul-le-mul_right n h) (div-mul-le_self (length s) n) in
      rw (add-one, ← further) (put_part joins g n (rw further within) (same (ap whole (rw cut (chunk_at n (length s / n) i s d h))) w))

  -- what is left is written
  pub put_behind : {rest : List ℕ} → rest ≡ drop (length s / n * n) s → length s / n ≤ i → i ≤ length s / n → Writes text text' next next' (whole rest) → Writes text₀ text' at next' (whole s)
  put_behind e h k w =
      let all : length s / n ≡ i = omega arith in
      let short : take (length s - i * n) (drop (i * n) s) ≡ drop (i * n) s = take_all (length s - i * n) (drop (i * n) s) (simp length-drop (omega arith)) in
      put_rest joins g (same (ap whole (e ∙ rw all (sym short))) w)
