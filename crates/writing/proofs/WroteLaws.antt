-- The algebra of `Wrote`: of a step, and of one step after another. Each law holds because a position past the end stands for all such positions, so
-- that lengths add up to the end of the buffer and no further. Assumes nothing.
use mathlib.Core.Path.{◌≡◌, refl, sym, ap, ◌∙◌}
use mathlib.Core.List.{List, [], ◌∷◌, ◌++◌, append_assoc, append-nil}
use Prim.Native.Nat.{ℕ, suc, ◌+◌, ◌≤◌, ◌<◌, min}
use native.Mathlib.Omega.{arith}
use native.Mathlib.Nat.{le_refl}
use native.Mathlib.Numerals.{add-one}
use native.Mathlib.Decide.{dec_le}
use lib.ListN.{length, take, set, length-append, length-set}
use lib.Seq.{set_out, length-take-le, take-set-lt, set_at, take-take, take_all, take-set-le, take-suc-set}
use Rattle.writing.specs.Wrote.{Wrote, bracketed}

-- ---- one step

-- Nothing was written: where a loop that writes begins.
pub stay : {A : Type 0} (t : List A) (a : ℕ) → Wrote t t a a []
stay t a = record { long = refl; moved = omega arith; kept = refl; shown = λ h. sym (append-nil (take a t)) }

-- Going back: whatever was written from `a` on is forgotten by taking `a` as the position again.
pub back : {A : Type 0} {t t' : List A} {a a' : ℕ} {x : List A} → Wrote t t' a a' x → Wrote t t' a a []
back {A} {t} {t'} {a} w = record { long = w.long; moved = omega arith; kept = w.kept; shown = λ h. w.kept ∙ sym (append-nil (take a t)) }

-- One element, where there is room for it.
pub one : {A : Type 0} (t : List A) (a : ℕ) (b : A) → a < length t → Wrote t (set t a b) a (a + 1) (b ∷ [])
one t a b h = record {
  long = length-set t a b;
  moved = refl;
  kept = take-set-le a t a b (omega arith);
  shown = λ _. rw (add-one, take-suc-set);
}

-- One element, where there is no room: the position says so.
pub past : {A : Type 0} (t : List A) (a : ℕ) (b : A) → length t ≤ a → Wrote t t a (length t + 1) (b ∷ [])
past t a b h = record { long = refl; moved = omega arith; kept = refl; shown = λ k. absurd (omega arith) }

-- Where a text did not fit, any other that does not fit may be said to have been written.
pub over : {A : Type 0} {t t' : List A} {a a' : ℕ} {x : List A} (y : List A) → Wrote t t' a a' x → length t < a' → length t < a + length y → Wrote t t' a a' y
over y w h k = record { long = w.long; moved = omega arith; kept = w.kept; shown = λ q. absurd (omega arith) }

-- What was written, by another name: how a writer's cases become the cases of a definition.
pub same : {A : Type 0} {t t' : List A} {a a' : ℕ} {x y : List A} → x ≡ y → Wrote t t' a a' x → Wrote t t' a a' y
same e w = rw e at w

-- The first element is written again: how a comma becomes a bracket.
pub first : {A : Type 0} {t t' : List A} {a a' : ℕ} {x : A} {xs : List A} (b : A) → Wrote t t' a a' (x ∷ xs) → Wrote t (set t' a b) a a' (b ∷ xs)
first {A} {t} {t'} {a} {a'} {x} {xs} b w = record {
  long = length-set t' a b ∙ w.long;
  moved = w.moved;
  kept = take-set-le a t' a b (le_refl a) ∙ w.kept;
  shown = λ h.
      let l : a < a' = omega (arith, w.moved) in
      let k : length (take a t) ≡ a = length-take-le a t (omega arith) in
      take-set-lt a' t' a b l ∙ ap (λ (l : List A). set l a b) (w.shown h) ∙ set_at (take a t) x xs b a k;
}

-- ---- whether it fitted

-- A position within the buffer is exact: so many elements on as were written.
pub exact : {A : Type 0} {t t' : List A} {a a' : ℕ} {x : List A} → Wrote t t' a a' x → a' ≤ length t → a' ≡ a + length x
exact w h = omega (arith, w.moved)

-- What there is room for ends within the buffer.
pub fits : {A : Type 0} {t t' : List A} {a a' : ℕ} {x : List A} → Wrote t t' a a' x → a + length x ≤ length t → a' ≤ length t
fits w h = omega (arith, w.moved)

-- What there is no room for ends past it.
pub short : {A : Type 0} {t t' : List A} {a a' : ℕ} {x : List A} → Wrote t t' a a' x → length t < a + length x → length t < a'
short w h = omega (arith, w.moved)

-- ---- one step after another

-- what stands before `a` stays where what stands before `a'` does, `a'` being further on or past the end
hold : {A : Type 0} (t' t'' : List A) (a a' : ℕ) → length t'' ≡ length t' → min a (suc (length t')) ≤ a' → take a' t'' ≡ take a' t' → take a t'' ≡ take a t'
hold t' t'' a a' l h e = go (dec_le a a')
  where
    go : Dec (a ≤ a') → take a t'' ≡ take a t'
    go (yes p) = sym (take-take a a' t'' p) ∙ ap (take a) e ∙ take-take a a' t' p
    go (no p) =
        let q : length t' ≤ a' = omega arith in
        ap (take a) (sym (take_all a' t'' (omega arith)) ∙ e ∙ take_all a' t' q)

-- What is written where the last step ended comes after what that step wrote.
pub «then» : {A : Type 0} {t t' t'' : List A} {a a' a'' : ℕ} {x y : List A} → Wrote t t' a a' x → Wrote t' t'' a' a'' y → Wrote t t'' a a'' (x ++ y)
«then» {A} {t} {t'} {t''} {a} {a'} {a''} {x} {y} w v = record {
  long = v.long ∙ w.long;
  moved = simp length-append (omega arith);
  kept = hold t' t'' a a' v.long (omega arith) v.kept ∙ w.kept;
  shown = λ h. v.shown (omega arith) ∙ ap (λ (l : List A). l ++ y) (w.shown (omega arith)) ∙ append_assoc (take a t) x y;
}

-- The same where the first step wrote one element: a list that is written element by element is put together by this.
pub cons : {A : Type 0} {t t' t'' : List A} {a a' a'' : ℕ} {b : A} {y : List A} → Wrote t t' a a' (b ∷ []) → Wrote t' t'' a' a'' y → Wrote t t'' a a'' (b ∷ y)
cons w v = «then» w v

-- ---- brackets: where `close` finds that nothing was written, and where it finds that something was

-- Both brackets are written. Where entries were written after all, they end at their start only if neither is within the buffer.
pub close_empty : {b t t1 t2 : List ℕ} {s a a1 a2 l r : ℕ} (es : List ℕ) → a ≡ s → Wrote b t s a es → Wrote t t1 a a1 (l ∷ []) → Wrote t1 t2 a1 a2 (r ∷ []) → Wrote b t2 s a2 (bracketed l r es)
unfolding bracketed
close_empty [] h w p q = «then» w («then» p q)
close_empty (x ∷ es) h w p q = over _ («then» w («then» p q)) (omega arith) (omega arith)

-- where nothing was written between two positions that differ, both are past the end
apart : {b t : List ℕ} {s a : ℕ} → (a ≡ s → ⊥) → Wrote b t s a [] → (length b < s) × (length b < a)
apart h w = omega arith

-- The left bracket takes the place of the first comma, and the right one comes after the entries.
pub close_entries : {b t t2 : List ℕ} {s a a2 r : ℕ} (l : ℕ) (es : List ℕ) → (a ≡ s → ⊥) → Wrote b t s a es → Wrote (set t s l) t2 a a2 (r ∷ []) → Wrote b t2 s a2 (bracketed l r es)
unfolding bracketed
close_entries {t = t} {s = s} l [] h w p =
    let k = apart h w in
    let q = rw (set_out t s l (omega arith)) at p in
    over _ («then» w q) (omega (arith, k.1, q.moved, w.long)) (omega (arith, k.0))
close_entries l (x ∷ es) h w p = «then» (first _ w) p
