-- Two texts are the same just if their parts are, cut at one place; texts of different lengths are not.
-- Assumes nothing.
use mathlib.Core.Path.{◌≡◌, refl, sym, ap, ◌∙◌}
use mathlib.Core.Bool.{Bool, true, false, not, ◌&&◌, and_assoc, and-true}
use mathlib.Core.List.{List, [], ◌∷◌, ◌++◌}
use Prim.Native.Nat.{ℕ, zero, suc, ◌+◌, ◌-◌, ◌≤◌, ◌<◌}
use native.Mathlib.Numerals.{add-one}
use native.Mathlib.Omega.{arith}
use borrow.Author.Tests.{not-true, not-false}
use lib.Dec.{eqb}
use lib.Pointwise.{pointwise}
use lib.ListN.{length, get_or, take, drop, length-take, length-drop}
use lib.Seq.{take-suc, take_all, drop-drop, length-take-le}
use Rattle.rows.specs.Strings.{same}
use Rattle.rows.proofs.Every.{and-false, and_right}

unequal_lengths : (a b : List ℕ) → (length a ≡ length b → ⊥) → same a b ≡ false
unfolding same
unequal_lengths [] [] h = absurd (h refl)
unequal_lengths [] (y ∷ b) h = refl
unequal_lengths (x ∷ a) [] h = refl
unequal_lengths (x ∷ a) (y ∷ b) h = rw (unequal_lengths a b (λ e. h (ap suc e))) (and-false (eqb x y))

pub same_lengths : (a b : List ℕ) → (length a ≡ length b → ⊥) → false ≡ same a b
same_lengths a b h = sym (unequal_lengths a b h)

-- what the library's `==` looks at
pub same_pointwise : (a b : List ℕ) → pointwise eqb a b ≡ same a b
unfolding same
same_pointwise [] [] = refl
same_pointwise [] (y ∷ b) = refl
same_pointwise (x ∷ a) [] = refl
same_pointwise (x ∷ a) (y ∷ b) = ap (λ (r : Bool). eqb x y && r) (same_pointwise a b)

-- ---- byte by byte

same_append : (s t u v : List ℕ) → length s ≡ length t → same (s ++ u) (t ++ v) ≡ (same s t && same u v)
unfolding same
same_append [] [] u v e = refl
same_append [] (y ∷ t) u v e = absurd (omega arith)
same_append (x ∷ s) [] u v e = absurd (omega arith)
same_append (x ∷ s) (y ∷ t) u v e =
    ap (λ (r : Bool). eqb x y && r) (same_append s t u v (omega arith)) ∙ sym (and_assoc (eqb x y) (same s t) (same u v))

pub agree_none : (a b : List ℕ) → true ≡ same (take 0 a) (take 0 b)
unfolding same
agree_none a b = refl

module _ (a b : List ℕ) (alike : length a ≡ length b) (agree : Bool) (i : ℕ) (inv : agree ≡ same (take i a) (take i b)) where
  pub agree_more : i < length a → (agree && eqb (get_or a i 0) (get_or b i 0)) ≡ same (take (i + 1) a) (take (i + 1) b)
  unfolding same
  agree_more h =
      let inside : i < length b = omega arith in
      let both : length (take i a) ≡ length (take i b) = length-take-le i a (omega arith) ∙ sym (length-take-le i b (omega arith)) in
      rw (add-one, take-suc a i 0, take-suc b i 0, same_append (take i a) (take i b) _ _ both, inv)
      (ap (λ (r : Bool). same (take i a) (take i b) && r) (sym (and-true (eqb (get_or a i 0) (get_or b i 0)))))

  pub agree_all : length a ≤ i → agree ≡ same a b
  agree_all h = inv ∙ rw (take_all i a h, take_all i b (omega arith))

-- ---- block by block

module _ (a b : List ℕ) (alike : length a ≡ length b) where
  pub parts_alike : (n m : ℕ) → length (take n (drop m a)) ≡ length (take n (drop m b))
  parts_alike n m = simp (length-take, length-drop, alike)

  pub ends_alike : (m : ℕ) → length (take (length a - m) (drop m a)) ≡ length (take (length b - m) (drop m b))
  ends_alike m = rw alike (parts_alike (length b - m) m)

-- cut after n bytes
same_cut : (n : ℕ) (a b : List ℕ) → same a b ≡ (same (take n a) (take n b) && same (drop n a) (drop n b))
unfolding same
same_cut zero a b = refl
same_cut (suc n) [] [] = refl
same_cut (suc n) [] (y ∷ b) = refl
same_cut (suc n) (x ∷ a) [] = refl
same_cut (suc n) (x ∷ a) (y ∷ b) =
    ap (λ (r : Bool). eqb x y && r) (same_cut n a b)
    ∙ sym (and_assoc (eqb x y) (same (take n a) (take n b)) (same (drop n a) (drop n b)))

module _ (a b : List ℕ) (i : ℕ) (inv : same a b ≡ same (drop i a) (drop i b)) where
  module _ (n : ℕ) (r : Bool) (e : r ≡ same (take (i + n - i) (drop i a)) (take (i + n - i) (drop i b))) where
    cut : same a b ≡ (r && same (drop (i + n) a) (drop (i + n) b))
    cut =
        let size : i + n - i ≡ n = omega arith in
        inv ∙ rw (same_cut n (drop i a) (drop i b), drop-drop n i a, drop-drop n i b, e, size)

    pub block_differs : not r ≡ true → false ≡ same a b
    block_differs t = sym (rw (cut, not-true r t))

    pub block_same : not r ≡ false → same a b ≡ same (drop (i + n) a) (drop (i + n) b)
    block_same t = rw (cut, not-false r t)

  -- the last block begins no later than at i, and ends with the texts
  pub block_last : (n : ℕ) (r : Bool) → length a - i ≤ n
      → r ≡ same (take (length a - (length a - n)) (drop (length a - n) a)) (take (length b - (length a - n)) (drop (length a - n) b))
      → r ≡ same a b
  block_last n r h e =
      let whole-a : take (length a - k) (drop k a) ≡ drop k a = take_all (length a - k) (drop k a) (simp length-drop (omega arith)) in
      let whole-b : take (length b - k) (drop k b) ≡ drop k b = take_all (length b - k) (drop k b) (simp length-drop (omega arith)) in
      by_answer r (e ∙ rw (whole-a, whole-b))
    where
      k : ℕ
      k = length a - n

      start : k + (i - k) ≡ i
      start = omega arith

      by_answer : (r : Bool) → r ≡ same (drop k a) (drop k b) → r ≡ same a b
      by_answer false d = sym (same_cut k a b ∙ rw (← d) (and-false (same (take k a) (take k b))))
      by_answer true d =
          let rest : (same (take (i - k) (drop k a)) (take (i - k) (drop k b)) && same (drop i a) (drop i b)) ≡ true =
          sym (d ∙ rw (same_cut (i - k) (drop k a) (drop k b), drop-drop (i - k) k a, drop-drop (i - k) k b, start)) in
          sym (inv ∙ and_right (same (take (i - k) (drop k a)) (take (i - k) (drop k b))) (same (drop i a) (drop i b)) rest)
