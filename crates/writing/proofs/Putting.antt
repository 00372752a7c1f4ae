-- A loop that writes something for each byte of a run: what holds at its head, where it begins, after a turn and at its end. What it writes for a run,
-- `whole`, is what it writes for each byte, `each`, one after another. Assumes nothing.
use mathlib.Core.Path.{◌≡◌}
use mathlib.Core.List.{List, [], ◌∷◌, ◌++◌}
use Prim.Native.Nat.{ℕ, ◌+◌, ◌-◌, ◌≤◌, ◌<◌}
use native.Mathlib.Omega.{arith}
use native.Mathlib.Numerals.{add-one}
use lib.ListN.{length, take, drop, get_or}
use lib.Seq.{take-suc, take_all, take-add}
use Rattle.writing.specs.Wrote.{Writes}
use Rattle.writing.proofs.WritesLaws.{stay, «then»}

-- the first i bytes of s are written
pub record Putting (whole : List ℕ → List ℕ) (text₀ : List ℕ) (at : ℕ) (s text : List ℕ) (next i : ℕ) : Type 0 where
  pub within : i ≤ length s
  pub writes : Writes text₀ text at next (whole (take i s))

pub put_begin : {whole : List ℕ → List ℕ} → whole [] ≡ [] → (text : List ℕ) (at : ℕ) (s : List ℕ) → Putting whole text at s text at 0
put_begin e text at s = record { within = omega arith; writes = rw e (stay text at) }

pub put_again : {whole : List ℕ → List ℕ} {text₀ s text text' : List ℕ} {at next next' i : ℕ} (each : ℕ → List ℕ) → ((xs : List ℕ) (x : ℕ) → whole (xs ++ (x ∷ [])) ≡ whole xs ++ each x)
    → Putting whole text₀ at s text next i → i < length s → Writes text text' next next' (each (get_or s i 0)) → Putting whole text₀ at s text' next' (i + 1)
put_again {s = s} {i = i} each snoc g h w = record { within = omega arith; writes = rw (add-one, take-suc s i 0 h, snoc) («then» g.writes w) }

pub put_end : {whole : List ℕ → List ℕ} {text₀ s text : List ℕ} {at next i : ℕ} → Putting whole text₀ at s text next i → length s ≤ i → Writes text₀ text at next (whole s)
put_end {s = s} {i = i} g h = rw (take_all i s h) at g.writes

-- ---- part by part, where what is written for two parts is what is written for both together

module _ {whole : List ℕ → List ℕ} {text₀ s text text' : List ℕ} {at next next' i : ℕ} (joins : (xs ys : List ℕ) → whole (xs ++ ys) ≡ whole xs ++ whole ys)
    (g : Putting whole text₀ at s text next i) where
  pub put_part : (n : ℕ) → i + n ≤ length s → Writes text text' next next' (whole (take n (drop i s))) → Putting whole text₀ at s text' next' (i + n)
  put_part n h w = record { within = h; writes = rw (take-add i n s, joins (take i s) (take n (drop i s))) («then» g.writes w) }

  pub put_rest : Writes text text' next next' (whole (take (length s - i) (drop i s))) → Writes text₀ text' at next' (whole s)
  put_rest w = put_end (put_part (length s - i) (omega (arith, g.within)) w) (omega arith)
