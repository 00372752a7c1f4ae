-- Parts that were written exactly get their brackets exactly. Within the buffer the left one is laid over the first comma, and the right one comes
-- where the parts ended; past its end nothing is laid over. Assumes nothing.
use mathlib.Core.Path.{◌≡◌, refl, sym, ◌∙◌}
use mathlib.Core.Bool.{Bool, true, false, cond}
use mathlib.Core.List.{List, [], ◌∷◌, ◌++◌, append-nil}
use Prim.Native.Nat.{ℕ, suc, ◌+◌, ◌-◌, ◌≤◌, ◌<◌, min}
use native.Mathlib.Omega.{arith}
use native.Mathlib.Decide.{dec_le}
use borrow.Author.Tests.{eq-eqb, ne_eqb}
use lib.Dec.{eqb}
use lib.ListN.{length, take, drop, set, drop_of_length-le}
use lib.Seq.{set_at, length-take-le, take_all}
use Rattle.writing.specs.Wrote.{Writes, Closes, written, saturated, bracketed, closed, closed_end}
use Rattle.writing.proofs.WritesLaws.{writes, written_nothing, written_one, length_written, saturated_long, written_then, saturated_then}

-- ---- past the end

written_past : (t : List ℕ) (a : ℕ) (x : List ℕ) → length t ≤ a → written t a x ≡ t
unfolding written
written_past t a x h =
    let z : length t - a ≡ 0 = omega arith in
    rw (z, drop_of_length-le t {i = a + length x} (omega arith), take_all a t h) (append-nil t)

either : {A : Type 0} (b : Bool) (x y z : A) → x ≡ z → y ≡ z → cond b x y ≡ z
either true x y z p q = p
either false x y z p q = q

-- ---- within the buffer

-- the first of what was laid over is set again
set_again : (t : List ℕ) (s x l : ℕ) (xs : List ℕ) → s < length t → set (written t s (x ∷ xs)) s l ≡ written t s (l ∷ xs)
unfolding written
set_again t s x l xs h =
    let m : length t - s ≡ suc (length t - s - 1) = omega arith in
    rw m (set_at (take s t) x (take (length t - s - 1) xs ++ drop (s + suc (length xs)) t) l s (length-take-le s t (omega arith)))

first_again : (t : List ℕ) (s x l : ℕ) (xs : List ℕ) → s < length t → written (written t s (x ∷ xs)) s (l ∷ []) ≡ written t s (l ∷ xs)
first_again t s x l xs h = sym (written_one (written t s (x ∷ xs)) s l) ∙ set_again t s x l xs h

-- ---- the two equations of `Closes`, for parts that were written exactly

module _ (l r : ℕ) (t : List ℕ) (s x : ℕ) (xs : List ℕ) where
  -- where the parts ended
  abbrev ended : ℕ
  ended = saturated t s (x ∷ xs)

  closed_past : length t ≤ s → closed l r (written t s (x ∷ xs)) s ended ≡ written t s (bracketed l r (x ∷ xs))
  unfolding closed saturated
  closed_past p =
      let a : length t ≤ ended = omega arith in
      rw (written_past t s (x ∷ xs) p, written_past t s (bracketed l r (x ∷ xs)) p)
      (either (eqb ended s) (written t ended (l ∷ r ∷ [])) (written (written t s (l ∷ [])) ended (r ∷ [])) t
      (written_past t ended (l ∷ r ∷ []) a)
      (rw (written_past t s (l ∷ []) p) (written_past t ended (r ∷ []) a)))

  closed_within : s < length t → closed l r (written t s (x ∷ xs)) s ended ≡ written t s (bracketed l r (x ∷ xs))
  unfolding closed bracketed saturated
  closed_within p =
      let o : ended ≡ s → ⊥ = λ e. omega arith in
      rw (ne_eqb ended s o, first_again t s x l xs p) (written_then t s (l ∷ xs) (r ∷ []))

  end_past : length t ≤ s → closed_end l r (written t s (x ∷ xs)) s ended ≡ saturated t s (bracketed l r (x ∷ xs))
  unfolding closed_end bracketed saturated
  end_past p =
      rw (length_written t s (x ∷ xs))
      (either (eqb ended s) (min (ended + 2) (suc (length t))) (min (ended + 1) (suc (length t))) (saturated t s (bracketed l r (x ∷ xs)))
      (omega arith)
      (omega arith))

  end_within : s < length t → closed_end l r (written t s (x ∷ xs)) s ended ≡ saturated t s (bracketed l r (x ∷ xs))
  unfolding closed_end bracketed saturated
  end_within p =
      let o : ended ≡ s → ⊥ = λ e. omega arith in
      rw (ne_eqb ended s o)
      (saturated_long t (written t s (x ∷ xs)) ended (r ∷ []) (length_written t s (x ∷ xs)) ∙ saturated_then t s (l ∷ xs) (r ∷ []))

module _ (l r : ℕ) (t : List ℕ) (s : ℕ) where
  closed_so : (es : List ℕ) → closed l r (written t s es) s (saturated t s es) ≡ written t s (bracketed l r es)
  unfolding closed bracketed saturated
  closed_so [] = rw (eq-eqb s s refl, written_nothing t s)
  closed_so (x ∷ xs) = go (dec_le (length t) s)
    where
      go : Dec (length t ≤ s) → closed l r (written t s (x ∷ xs)) s (saturated t s (x ∷ xs)) ≡ written t s (bracketed l r (x ∷ xs))
      go (yes p) = closed_past l r t s x xs p
      go (no p) = closed_within l r t s x xs (omega arith)

  end_so : (es : List ℕ) → closed_end l r (written t s es) s (saturated t s es) ≡ saturated t s (bracketed l r es)
  unfolding closed_end bracketed saturated
  end_so [] = rw (eq-eqb s s refl) (saturated_long t (written t s []) s (l ∷ r ∷ []) (length_written t s []))
  end_so (x ∷ xs) = go (dec_le (length t) s)
    where
      go : Dec (length t ≤ s) → closed_end l r (written t s (x ∷ xs)) s (saturated t s (x ∷ xs)) ≡ saturated t s (bracketed l r (x ∷ xs))
      go (yes p) = end_past l r t s x xs p
      go (no p) = end_within l r t s x xs (omega arith)

-- Parts that were written from `start` to `at` are written in their brackets.
pub closes_exactly : {l r : ℕ} {origin before after : List ℕ} {start at end : ℕ} {es : List ℕ} → Writes origin before start at es
    → Closes l r before start at after end → Writes origin after start end (bracketed l r es)
closes_exactly {l} {r} {origin} {start = start} {es = es} w q =
    writes
    (q.exact ∙ (λ i. closed l r (w.exact i) start (w.moved i)) ∙ closed_so l r origin start es)
    (q.moved ∙ (λ i. closed_end l r (w.exact i) start (w.moved i)) ∙ end_so l r origin start es)
