-- A rotation by three reversals, and what was written last in its place among the rest. Of two runs side by side, reversing each and then both gives
-- the second before the first, since a reversal of x and then y is y's reversal and then x's. Assumes nothing.
use mathlib.Core.Path.{◌≡◌, refl, sym, ap, ◌∙◌}
use mathlib.Core.Bool.{and-false}
use mathlib.Core.Logic.{◌⊎◌, ⊎_elim}
use mathlib.Core.List.{List, ◌++◌, append_assoc}
use Prim.Native.Nat.{ℕ, suc, ◌+◌, ◌-◌, ◌≤◌, ◌<◌, min}
use native.Mathlib.Omega.{arith}
use borrow.Author.Tests.{le-leb, lt-leb}
use lib.ListN.{length, take, drop, length-append, length-reverse, take-append-drop, length-drop}
use lib.Seq.{take-take, length-take-le, take_at, drop_at, length-slice}
use Rattle.std.specs.Prelude.{reverse}
use lib.Seq.{slice}
use mathlib.Core.List.{reverse-append, reverse-reverse}
use Rattle.std.proofs.lemmas.List.{drop-take, drop-drop}
use borrow.Rule.Slice.PartMut.{put_mid}
use Rattle.writing.specs.Wrote.{Wrote, Moves, rotated, turned_into_place}
use Rattle.writing.proofs.WroteLaws.{over}

-- what reversing a part leaves of t
abbrev reversed : ℕ → ℕ → List ℕ → List ℕ
reversed from to t = take from t ++ (reverse (slice from to t) ++ drop to t)

-- a list in three parts is cut at their borders
cut : (p q z : List ℕ) (k l : ℕ) → length p ≡ k → length p + length q ≡ l → (take k (p ++ (q ++ z)) ≡ p) × (slice k l (p ++ (q ++ z)) ≡ q) × (drop l (p ++ (q ++ z)) ≡ z)
cut p q z k l e₁ e₂ =
    let w : p ++ (q ++ z) ≡ (p ++ q) ++ z = sym (append_assoc p q z) in
    let n : length (p ++ q) ≡ l = length-append p q ∙ e₂ in
    (take_at p (q ++ z) k e₁, ap (λ (x : List ℕ). drop k (take l x)) w ∙ ap (drop k) (take_at (p ++ q) z l n) ∙ drop_at p q k e₁, ap (drop l) w ∙ drop_at (p ++ q) z l n)

reversed_middle : (p q z : List ℕ) (k l : ℕ) → length p ≡ k → length p + length q ≡ l → reversed k l (p ++ (q ++ z)) ≡ p ++ (reverse q ++ z)
reversed_middle p q z k l e₁ e₂ = let m = cut p q z k l e₁ e₂ in λ i. m.0 i ++ (reverse (m.1 i) ++ m.2 i)

-- both, each turned round, and then all of it
reverse_twice : (x y : List ℕ) → reverse (reverse x ++ reverse y) ≡ y ++ x
reverse_twice x y = reverse-append (reverse x) (reverse y) ∙ ap (λ (w : List ℕ). w ++ reverse (reverse x)) (reverse-reverse y) ∙ ap (λ (w : List ℕ). y ++ w) (reverse-reverse x)

-- a list is what comes before a border, between two, and after
split : (t : List ℕ) (b e : ℕ) → b ≤ e → t ≡ (take b t ++ slice b e t) ++ drop e t
split t b e h = sym (take-append-drop e t) ∙ ap (λ (w : List ℕ). w ++ drop e t) (sym (take-append-drop b (take e t)) ∙ ap (λ (w : List ℕ). w ++ slice b e t) (take-take b e t h))

-- what the library's `reverse` leaves where a part is lent to it
pub part_reversed : (t r : List ℕ) (a b : ℕ) → a ≤ b → r ≡ reverse (take (b - a) (drop a t)) → put_mid a (b - a) t r ≡ reversed a b t
part_reversed t r a b h q =
    let e : a + (b - a) ≡ b = omega arith in
    let front : take (b - a) (drop a t) ≡ slice a b t = sym (drop-take a (b - a) t) ∙ ap (λ (n : ℕ). slice a n t) e in
    let back : drop (b - a) (drop a t) ≡ drop b t = drop-drop (b - a) a t ∙ ap (λ (n : ℕ). drop n t) e in
    rw (q, front, back) refl

-- the three reversals, of a list given as its four parts
three_reversals : (p x y z : List ℕ) (a b e : ℕ) → length p ≡ a → length p + length x ≡ b → length p + length x + length y ≡ e
    → reversed a e (reversed b e (reversed a b (p ++ (x ++ (y ++ z))))) ≡ p ++ (y ++ (x ++ z))
three_reversals p x y z a b e ha hb he =
    ap (λ (w : List ℕ). reversed a e (reversed b e w)) (reversed_middle p x (y ++ z) a b ha hb ∙ sym (append_assoc p (reverse x) (y ++ z)))
    ∙ ap (reversed a e)
    (reversed_middle (p ++ reverse x) y z b e (simp (length-append, length-reverse) (omega arith)) (simp (length-append, length-reverse) (omega arith))
    ∙ append_assoc p (reverse x) (reverse y ++ z) ∙ ap (λ (w : List ℕ). p ++ w) (sym (append_assoc (reverse x) (reverse y) z)))
    ∙ reversed_middle p (reverse x ++ reverse y) z a e ha (simp (length-append, length-reverse) (omega arith))
    ∙ ap (λ (w : List ℕ). p ++ (w ++ z)) (reverse_twice x y)
    ∙ ap (λ (w : List ℕ). p ++ w) (append_assoc y x z)

-- a list is its four parts
four_parts : (t : List ℕ) (a b e : ℕ) → a ≤ b → b ≤ e → t ≡ take a t ++ (slice a b t ++ (slice b e t ++ drop e t))
four_parts t a b e h₁ h₂ =
    split t b e h₂ ∙ append_assoc (take b t) (slice b e t) (drop e t)
    ∙ ap (λ (w : List ℕ). w ++ (slice b e t ++ drop e t)) (sym (take-append-drop a (take b t)) ∙ ap (λ (w : List ℕ). w ++ slice a b t) (take-take a b t h₁))
    ∙ append_assoc (take a t) (slice a b t) (slice b e t ++ drop e t)

length_part : (t : List ℕ) (a b : ℕ) → b ≤ length t → length (slice a b t) ≡ b - a
length_part t a b h = length-slice a b t h

pub rotated_by_reversals : (t : List ℕ) {t1 t2 t3 : List ℕ} (a b e : ℕ) → (a ≤ b) × (b ≤ e) × (e ≤ length t)
    → t1 ≡ reversed a b t → t2 ≡ reversed b e t1 → t3 ≡ reversed a e t2 → t3 ≡ rotated a b e t
rotated_by_reversals t a b e h p q r =
    let x = length-take-le a t (omega arith) in
    let y = length_part t a b (omega arith) in
    let z = length_part t b e h.2 in
    r ∙ ap (reversed a e) (q ∙ ap (reversed b e) p) ∙ ap (λ (w : List ℕ). reversed a e (reversed b e (reversed a b w))) (four_parts t a b e h.0 h.1)
    ∙ three_reversals (take a t) (slice a b t) (slice b e t) (drop e t) a b e x (omega arith) (omega arith)

-- ---- what was written last goes to its place: xs, ys and zs were written from s to e, and zs is to stand before ys

module _ {b t : List ℕ} {s e : ℕ} (a m : ℕ) (xs ys zs : List ℕ) (w : Wrote b t s e (xs ++ (ys ++ zs))) where
  -- the borders are those of ys, wherever the text fits
  abbrev Borders : Type 0
  Borders = e ≤ length t → (a ≡ s + length xs) × (m ≡ s + length xs + length ys)

  length_all : length (xs ++ (zs ++ ys)) ≡ length xs + length ys + length zs
  length_all = simp length-append (omega arith)

  ends : min e (suc (length b)) ≡ min (s + (length xs + length ys + length zs)) (suc (length b))
  ends = w.moved ∙ simp length-append (omega arith)

  -- a text that does not fit stays as it is
  turned_over : Borders → length t < e → Wrote b t s e (xs ++ (zs ++ ys))
  turned_over h k = over _ w (omega (arith, w.long)) (omega (arith, ends, length_all, w.long))

  -- of one that fits the borders are in order
  not_far : Borders → e ≤ length t → e < m → Wrote b t s e (xs ++ (zs ++ ys))
  not_far h k l = absurd (let j = h k in omega (arith, ends, w.long))

  not_low : Borders → e ≤ length t → m < a → Wrote b t s e (xs ++ (zs ++ ys))
  not_low h k l = absurd (let j = h k in omega arith)

  front : List ℕ
  front = take s b ++ xs

  length_front : e ≤ length t → length front ≡ s + length xs
  unfolding front
  length_front k = simp (length-append, length-take-le s b (omega (arith, ends, w.long)))

  parts : e ≤ length t → t ≡ front ++ (ys ++ (zs ++ drop e t))
  unfolding front
  parts k = sym (take-append-drop e t) ∙ ap (λ (l : List ℕ). l ++ drop e t) (w.shown (omega (arith, w.long))) ∙ simp append_assoc

  turned : {t' : List ℕ} → Borders → e ≤ length t → t' ≡ rotated a m e t → t' ≡ (take s b ++ (xs ++ (zs ++ ys))) ++ drop e t
  unfolding front
  turned h k q =
      let j = h k in
      let f = length_front k in
      let m₁ = cut front ys (zs ++ drop e t) a m (omega arith) (omega arith) in
      let m₂ = cut (front ++ ys) zs (drop e t) m e (omega (arith, length-append front ys)) (omega (arith, length-append front ys, ends, w.long)) in
      let x : take a t ≡ front = ap (take a) (parts k) ∙ m₁.0 in
      let y : slice a m t ≡ ys = ap (slice a m) (parts k) ∙ m₁.1 in
      let z : slice m e t ≡ zs = ap (slice m e) (parts k ∙ sym (append_assoc front ys (zs ++ drop e t))) ∙ m₂.1 in
      q ∙ rw (x, y, z) (simp append_assoc)

  -- and the rotation is what puts zs before ys
  turned_in : {t' : List ℕ} → Borders → e ≤ length t → t' ≡ rotated a m e t → Wrote b t' s e (xs ++ (zs ++ ys))
  turned_in {t'} h k q =
      let u = turned h k q in
      let l : length (take s b) ≡ s = length-take-le s b (omega (arith, ends, w.long)) in
      let n : length (take s b ++ (xs ++ (zs ++ ys))) ≡ e = simp length-append (omega (arith, ends, w.long)) in
      record {
        long = ap length u ∙ simp (length-append (take s b ++ (xs ++ (zs ++ ys))), n, length-drop) (omega (arith, w.long));
        moved = rw length_all ends;
        kept = ap (take s) (u ∙ append_assoc (take s b) (xs ++ (zs ++ ys)) (drop e t)) ∙ take_at (take s b) _ s l;
        shown = λ _. ap (take e) u ∙ take_at _ (drop e t) e n;
      }

-- ---- the ways of `turned_into_place`

module _ (t : List ℕ) (a m e : ℕ) where
  -- the borders are in order and within the buffer
  pub moves_rotated : {t' : List ℕ} → a ≤ m → m ≤ e → e ≤ length t → t' ≡ rotated a m e t → Moves t a m e t'
  unfolding turned_into_place
  moves_rotated h₁ h₂ h₃ q = record {
    exact = simp (le-leb a m h₁, le-leb m e h₂, le-leb e (length t) h₃) q;
    moves = λ b xs ys zs s w h. turned_in a m xs ys zs w h h₃ q;
  }

  -- one of these is not so
  pub moves_not : ((e ≤ length t) × (m ≤ e) × (m < a)) ⊎ (((e ≤ length t) × (e < m)) ⊎ (length t < e)) → Moves t a m e t
  unfolding turned_into_place
  moves_not h = record {
    exact = ⊎_elim
        (λ k. simp (lt-leb a m k.2))
        (⊎_elim (λ k. simp (lt-leb m e k.1, and-false)) (λ k. simp (lt-leb e (length t) k, and-false)))
        h;
    moves = λ b xs ys zs s w l. ⊎_elim
        (λ k. not_low a m xs ys zs w l k.0 k.2)
        (⊎_elim (λ k. not_far a m xs ys zs w l k.0 k.1) (λ k. turned_over a m xs ys zs w l k))
        h;
  }
