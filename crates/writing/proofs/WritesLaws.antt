-- The algebra of `Writes`: of a step, and of one step after another. To lay x over a buffer and then y where x ended is to lay x ++ y over it, whether
-- all of it fits or not: `written` goes through the buffer element by element, and a position past the end stays past it. Assumes nothing.
use mathlib.Core.Path.{◌≡◌, refl, sym, ap, ◌∙◌}
use mathlib.Core.List.{List, [], ◌∷◌, ◌++◌, append_assoc, append-nil}
use Prim.Native.Nat.{ℕ, zero, suc, ◌+◌, ◌-◌, ◌≤◌, ◌<◌, min}
use native.Mathlib.Omega.{arith}
use native.Mathlib.Nat.{zero-sub, suc-sub-suc, suc-add, zero-add, sub-zero}
use lib.ListN.{length, take, drop, set, length-set, length-append, length-take, length-drop, take-append-drop}
use lib.Seq.{drop-drop, set_out, length-take-le, take_all, take-add, take_at, take-nil, drop-nil}
use Rattle.writing.specs.Wrote.{Writes, written, saturated}

-- ---- `written`, element by element

written_empty : {A : Type 0} (a : ℕ) (x : List A) → written [] a x ≡ []
unfolding written
written_empty {A = A} a x = rw (take-nil {A = A} a, zero-sub a, drop-nil {A = A} (a + length x))

written_on : {A : Type 0} (e : A) (t : List A) (a : ℕ) (x : List A) → written (e ∷ t) (suc a) x ≡ e ∷ written t a x
unfolding written
written_on e t a x = rw (suc-sub-suc (length t) a, suc-add a (length x))

written_here : {A : Type 0} (e : A) (t : List A) (b : A) (x : List A) → written (e ∷ t) zero (b ∷ x) ≡ b ∷ written t zero x
unfolding written
written_here e t b x = simp (zero-add, sub-zero)

pub written_nothing : {A : Type 0} (t : List A) (a : ℕ) → written t a [] ≡ t
unfolding written
written_nothing {A = A} [] a = written_empty a []
written_nothing {A = A} (e ∷ t) zero = rw (take-nil {A = A} (suc (length t) - zero))
written_nothing {A = A} (e ∷ t) (suc a) = written_on e t a [] ∙ ap (λ (l : List A). e ∷ l) (written_nothing t a)

-- to set an element is to lay it over
pub written_one : {A : Type 0} (t : List A) (a : ℕ) (b : A) → set t a b ≡ written t a (b ∷ [])
written_one {A = A} [] a b = sym (written_empty a (b ∷ []))
written_one {A = A} (e ∷ t) zero b = sym (written_here e t b [] ∙ ap (λ (l : List A). b ∷ l) (written_nothing t zero))
written_one {A = A} (e ∷ t) (suc a) b = ap (λ (l : List A). e ∷ l) (written_one t a b) ∙ sym (written_on e t a (b ∷ []))

pub length_written : {A : Type 0} (t : List A) (a : ℕ) (x : List A) → length (written t a x) ≡ length t
unfolding written
length_written t a x = simp (length-append, length-take, length-drop) (omega arith)

-- ---- `saturated`

-- of the buffer only the length matters
pub saturated_long : {A : Type 0} (t t' : List A) (a : ℕ) (x : List A) → length t' ≡ length t → saturated t' a x ≡ saturated t a x
unfolding saturated
saturated_long t t' a [] l = refl
saturated_long t t' a (b ∷ x) l = rw l

saturated_on : {A : Type 0} (e : A) (t : List A) (a : ℕ) (x : List A) → saturated (e ∷ t) (suc a) x ≡ suc (saturated t a x)
unfolding saturated
saturated_on e t a [] = refl
saturated_on e t a (b ∷ x) = omega arith

saturated_here : {A : Type 0} (e : A) (t : List A) (b : A) (x : List A) → saturated (e ∷ t) zero (b ∷ x) ≡ suc (saturated t zero x)
unfolding saturated
saturated_here e t b [] = omega arith
saturated_here e t b (c ∷ x) = omega arith

saturated_nothing : {A : Type 0} (t : List A) (a : ℕ) → saturated t a [] ≡ a
unfolding saturated
saturated_nothing t a = refl

-- ---- x, and then y where x ended

pub written_then : {A : Type 0} (t : List A) (a : ℕ) (x y : List A) → written (written t a x) (saturated t a x) y ≡ written t a (x ++ y)
written_then {A = A} [] a x y = rw (written_empty a x, written_empty (saturated [] a x) y, written_empty a (x ++ y))
written_then {A = A} (e ∷ t) zero [] y = rw (written_nothing (e ∷ t) zero, saturated_nothing (e ∷ t) zero)
written_then {A = A} (e ∷ t) zero (b ∷ x) y =
    rw (written_here e t b x, saturated_here e t b x, written_on b (written t zero x) (saturated t zero x) y, written_here e t b (x ++ y))
    (ap (λ (l : List A). b ∷ l) (written_then t zero x y))
written_then {A = A} (e ∷ t) (suc a) x y =
    rw (written_on e t a x, saturated_on e t a x, written_on e (written t a x) (saturated t a x) y, written_on e t a (x ++ y))
    (ap (λ (l : List A). e ∷ l) (written_then t a x y))

pub saturated_then : {A : Type 0} (t : List A) (a : ℕ) (x y : List A) → saturated t (saturated t a x) y ≡ saturated t a (x ++ y)
unfolding saturated
saturated_then t a [] y = refl
saturated_then t a (b ∷ x) [] = rw (append-nil x)
saturated_then t a (b ∷ x) (c ∷ y) = omega (arith, length-append x (c ∷ y))

-- ---- what is exact was written

moved_so : {A : Type 0} (t : List A) (a : ℕ) (x : List A) → min (saturated t a x) (suc (length t)) ≡ min (a + length x) (suc (length t))
unfolding saturated
moved_so t a [] = omega arith
moved_so t a (b ∷ x) = omega arith

kept_before : {A : Type 0} (t : List A) (a : ℕ) (x : List A) → take a (written t a x) ≡ take a t
kept_before {A = A} t zero x = refl
kept_before {A = A} [] (suc a) x = ap (take (suc a)) (written_empty (suc a) x)
kept_before {A = A} (e ∷ t) (suc a) x = ap (take (suc a)) (written_on e t a x) ∙ ap (λ (l : List A). e ∷ l) (kept_before t a x)

shown_up_to : {A : Type 0} (t : List A) (a a' : ℕ) (x : List A) → a' ≡ a + length x → a' ≤ length t → take a' (written t a x) ≡ take a t ++ x
unfolding written
shown_up_to t a a' x e h =
    let l : length (take a t) ≡ a = length-take-le a t (omega arith) in
    let f : take (length t - a) x ≡ x = take_all (length t - a) x (omega arith) in
    rw (f, ← (append_assoc (take a t) x (drop (a + length x) t))) (take_at (take a t ++ x) (drop (a + length x) t) a' (length-append (take a t) x ∙ omega arith))

-- `Writes` by its two equations.
pub writes : {A : Type 0} {t t' : List A} {a a' : ℕ} {x : List A} → t' ≡ written t a x → a' ≡ saturated t a x → Writes t t' a a' x
writes {A} {t} {t'} {a} {a'} {x} e m =
    let l = length_written t a x in
    record {
      exact = e;
      moved = m;
      wrote = record {
        long = ap length e ∙ l;
        moved = ap (λ (n : ℕ). min n (suc (length t))) m ∙ moved_so t a x;
        kept = ap (take a) e ∙ kept_before t a x;
        shown = λ h. ap (take a') e ∙ shown_up_to t a a' x (omega (arith, moved_so t a x)) h;
      };
    }

-- ---- one step

-- Nothing was written: where a loop that writes begins.
pub stay : {A : Type 0} (t : List A) (a : ℕ) → Writes t t a a []
stay t a = writes (sym (written_nothing t a)) (sym (saturated_nothing t a))

-- One element, where there is room for it.
pub one : {A : Type 0} (t : List A) (a : ℕ) (b : A) → a < length t → Writes t (set t a b) a (a + 1) (b ∷ [])
unfolding saturated
one t a b h = writes (written_one t a b) (omega arith)

-- The same, with the position after it written in another way.
pub one_to : {A : Type 0} (t : List A) (a a' : ℕ) (b : A) → a < length t → a' ≡ a + 1 → Writes t (set t a b) a a' (b ∷ [])
one_to t a a' b h e = rw e (one t a b h)

-- One element, where there is no room: the position says so.
pub past : {A : Type 0} (t : List A) (a : ℕ) (b : A) → length t ≤ a → Writes t t a (length t + 1) (b ∷ [])
unfolding saturated
past t a b h = writes (sym (set_out t a b h) ∙ written_one t a b) (omega arith)

-- The same, with the position after it written in another way.
pub past_to : {A : Type 0} (t : List A) (a a' : ℕ) (b : A) → length t ≤ a → a' ≡ length t + 1 → Writes t t a a' (b ∷ [])
past_to t a a' b h e = rw e (past t a b h)

-- What was written, by another name: how a writer's cases become the cases of a definition.
pub same : {A : Type 0} {t t' : List A} {a a' : ℕ} {x y : List A} → x ≡ y → Writes t t' a a' x → Writes t t' a a' y
same e w = rw e at w

-- ---- one step after another

-- What is written where the last step ended comes after what that step wrote.
pub «then» : {A : Type 0} {t t' t'' : List A} {a a' a'' : ℕ} {x y : List A} → Writes t t' a a' x → Writes t' t'' a' a'' y → Writes t t'' a a'' (x ++ y)
«then» {A} {t} {t'} {t''} {a} {a'} {a''} {x} {y} w v =
    writes
    (v.exact ∙ (λ i. written (w.exact i) (w.moved i) y) ∙ written_then t a x y)
    (v.moved ∙ saturated_long t t' a' y w.wrote.long ∙ ap (λ (n : ℕ). saturated t n y) w.moved ∙ saturated_then t a x y)

-- The same where the first step wrote one element: a list that is written element by element is put together by this.
pub cons : {A : Type 0} {t t' t'' : List A} {a a' a'' : ℕ} {b : A} {y : List A} → Writes t t' a a' (b ∷ []) → Writes t' t'' a' a'' y → Writes t t'' a a'' (b ∷ y)
cons w v = «then» w v

-- Four elements, where there is room for all of them.
pub four : {A : Type 0} (t : List A) (a : ℕ) (w x y z : A) → a < length t → 4 ≤ length t - a
    → Writes t (set (set (set (set t a w) (a + 1) x) (a + 2) y) (a + 3) z) a (a + 4) (w ∷ x ∷ y ∷ z ∷ [])
four t a w x y z h k =
    let t1 = set t a w in
    let t2 = set t1 (a + 1) x in
    let t3 = set t2 (a + 2) y in
    cons (one t a w h)
    (cons (one_to t1 (a + 1) (a + 2) x (simp length-set (omega arith)) (omega arith))
    (cons (one_to t2 (a + 2) (a + 3) y (simp length-set (omega arith)) (omega arith)) (one_to t3 (a + 3) (a + 4) z (simp length-set (omega arith)) (omega arith))))

-- ---- laid over again

-- What is laid over as much again leaves nothing of it.
written_again : {A : Type 0} (t : List A) (a : ℕ) (x y : List A) → length x ≤ length y → written (written t a x) a y ≡ written t a y
written_again {A = A} [] a x y h = rw (written_empty a x)
written_again {A = A} (e ∷ t) zero [] y h = rw (written_nothing (e ∷ t) zero)
written_again {A = A} (e ∷ t) zero (b ∷ x) [] h = absurd (omega arith)
written_again {A = A} (e ∷ t) zero (b ∷ x) (c ∷ y) h =
    rw (written_here e t b x, written_here b (written t zero x) c y, written_here e t c y) (ap (λ (l : List A). c ∷ l) (written_again t zero x y (omega arith)))
written_again {A = A} (e ∷ t) (suc a) x y h =
    rw (written_on e t a x, written_on e (written t a x) a y, written_on e t a y) (ap (λ (l : List A). e ∷ l) (written_again t a x y h))

saturated_fits : {A : Type 0} (t : List A) (a : ℕ) (x : List A) → a + length x ≤ length t → saturated t a x ≡ a + length x
unfolding saturated
saturated_fits t a [] h = omega arith
saturated_fits t a (b ∷ x) h = omega arith

-- A run, where there is room for all of it, laid over as many elements.
pub run : {A : Type 0} (t t' : List A) (a : ℕ) (x : List A) → a + length x ≤ length t → t' ≡ take a t ++ (x ++ drop (length x) (drop a t)) → Writes t t' a (a + length x) x
unfolding written
run {A = A} t t' a x h e =
    let f : take (length t - a) x ≡ x = take_all (length t - a) x (omega arith) in
    let d : drop (length x) (drop a t) ≡ drop (a + length x) t = drop-drop (length x) a t ∙ ap (λ (n : ℕ). drop n t) (omega arith) in
    writes (e ∙ rw (d, f) refl) (sym (saturated_fits t a x h))

-- one run behind another, where the first fits
written_behind : {A : Type 0} (t : List A) (a : ℕ) (x y : List A) → a + length x ≤ length t → written (written t a x) (a + length x) y ≡ written t a (x ++ y)
written_behind t a x y h = rw (← (saturated_fits t a x h)) (written_then t a x y)

-- A run that fits is written by its first k elements and its last k, if these reach into one another.
pub lapped : {A : Type 0} {t t1 t2 : List A} {a a1 a2 : ℕ} (k : ℕ) (s : List A) → k ≤ length s → length s ≤ k + k → a + length s ≤ length t
    → Writes t t1 a a1 (take k s) → Writes t1 t2 (a + (length s - k)) a2 (take k (drop (length s - k) s)) → Writes t t2 a a2 s
lapped {A} {t} {t1} {t2} {a} {a1} {a2} k s h g f w v =
    let j = length s - k in
    let x = take j s in
    let y = drop j s in
    let m = take (k - j) y in
    let ly : length y ≡ k = length-drop j s ∙ omega arith in
    let lx : length x ≡ j = length-take-le j s (omega arith) in
    let whole : x ++ y ≡ s = take-append-drop j s in
    let size : k ≡ j + (k - j) = omega arith in
    let front : take k s ≡ x ++ m = ap (λ (n : ℕ). take n s) size ∙ take-add j (k - j) s in
    let back : take k y ≡ y = take_all k y (omega arith) in
    let e1 : t1 ≡ written (written t a x) (a + j) m =
    w.exact ∙ ap (written t a) front ∙ sym (written_behind t a x m (omega arith)) ∙ ap (λ (n : ℕ). written (written t a x) (a + n) m) lx
    in
    let e2 : t2 ≡ written t a s =
    v.exact
    ∙ (λ i. written (e1 i) (a + j) (back i))
    ∙ written_again (written t a x) (a + j) m y (omega (arith, length-take (k - j) y))
    ∙ ap (λ (n : ℕ). written (written t a x) (a + n) y) (sym lx)
    ∙ written_behind t a x y (omega arith)
    ∙ ap (written t a) whole
    in
    let e3 : a2 ≡ saturated t a s =
    v.moved ∙ ap (saturated t1 (a + j)) back ∙ saturated_fits t1 (a + j) y (omega (arith, w.wrote.long)) ∙ omega arith ∙ sym (saturated_fits t a s f)
    in
    writes e2 e3
