-- `escaped` by its three cases, and strings put together. Each follows from the tests of the definition. Assumes nothing.
use mathlib.Core.Path.{◌≡◌, refl, sym, ap, ◌∙◌}
use mathlib.Core.List.{List, [], ◌∷◌, ◌++◌, append_assoc, append-nil}
use Prim.Native.Nat.{ℕ, ◌+◌, ◌-◌, ◌≤◌, ◌<◌}
use mathlib.Core.Bool.{Bool, true, false, true≢false, not, ◌&&◌, and-true, and_assoc}
use native.Mathlib.Omega.{arith}
use borrow.Author.Tests.{lt-ltb, le-ltb, leb-true, leb-false, ne_eqb}
use lib.Dec.{ltb, leb, eqb}
use Rattle.std.specs.Prelude.{Some, None}
use Rattle.std.proofs.lemmas.Option.{none-some}
use native.Mathlib.Numerals.{add-one}
use lib.ListN.{length, take, drop, get_or, length-drop, take-append-drop}
use lib.Seq.{take-add, take_all, take-suc}
use Rattle.tokens.specs.Escape.{escape_letter, code_point_escape, is_plain, all_plain, escaped, escaped_all}

-- a letter l was found for b
pub escaped_letter : (b : ℕ) {l : ℕ} → escape_letter b ≡ Some l → escaped b ≡ 92 ∷ l ∷ []
unfolding escaped
escaped_letter b e = rw e

-- a plain byte has no letter
no_letter : (b : ℕ) → 32 ≤ b → eqb b 34 ≡ false → eqb b 92 ≡ false → escape_letter b ≡ None
unfolding escape_letter
no_letter b h p q =
    let low : (k : ℕ) → k < 32 → eqb b k ≡ false = λ k l. ne_eqb b k (λ e. omega arith) in
    simp (p, q, low 8 (omega arith), low 12 (omega arith), low 10 (omega arith), low 13 (omega arith), low 9 (omega arith))

-- it stands for itself
pub escaped_plain : (b : ℕ) → is_plain b ≡ true → escaped b ≡ b ∷ []
unfolding escaped is_plain
escaped_plain b e = by_test (leb 32 b) refl (eqb b 34) refl (eqb b 92) refl e
  where
    by_test : (t : Bool) → leb 32 b ≡ t → (u : Bool) → eqb b 34 ≡ u → (v : Bool) → eqb b 92 ≡ v → (t && (not u && not v)) ≡ true → escaped b ≡ b ∷ []
    by_test true p false q false r e = let h = leb-true 32 b p in rw (no_letter b h q r, le-ltb b 32 h)
    by_test true p false q true r e = absurd (true≢false (sym e))
    by_test true p true q v r e = absurd (true≢false (sym e))
    by_test false p u q v r e = absurd (true≢false (sym e))

-- no letter was found for a byte that is not plain: it is a control character
pub escaped_control : (b : ℕ) → is_plain b ≡ false → escape_letter b ≡ None → escaped b ≡ code_point_escape b
unfolding escaped is_plain escape_letter
escaped_control b n e = rw (e, by_test (leb 32 b) refl (eqb b 34) refl (eqb b 92) refl n e)
  where
    by_test : (t : Bool) → leb 32 b ≡ t → (u : Bool) → eqb b 34 ≡ u → (v : Bool) → eqb b 92 ≡ v → (t && (not u && not v)) ≡ false → escape_letter b ≡ None → ltb b 32 ≡ true
    by_test false p u q v r e z = lt-ltb b 32 (leb-false 32 b p)
    by_test true p true q v r e z = absurd (none-some 34 (sym (rw q at z)))
    by_test true p false q true r e z = absurd (none-some 92 (sym (rw (q, r) at z)))
    by_test true p false q false r e z = absurd (true≢false e)

-- ---- strings

pub escaped_all_append : (xs ys : List ℕ) → escaped_all (xs ++ ys) ≡ escaped_all xs ++ escaped_all ys
unfolding escaped_all
escaped_all_append [] ys = refl
escaped_all_append (x ∷ xs) ys = ap (λ (rest : List ℕ). escaped x ++ rest) (escaped_all_append xs ys) ∙ sym (append_assoc (escaped x) (escaped_all xs) (escaped_all ys))

pub escaped_all_snoc : (xs : List ℕ) (x : ℕ) → escaped_all (xs ++ (x ∷ [])) ≡ escaped_all xs ++ escaped x
unfolding escaped_all
escaped_all_snoc xs x = escaped_all_append xs (x ∷ []) ∙ ap (λ (last : List ℕ). escaped_all xs ++ last) (append-nil (escaped x))

-- plain bytes are the string as it stands
pub escaped_all_plain : (xs : List ℕ) → all_plain xs ≡ true → escaped_all xs ≡ xs
unfolding escaped_all all_plain
escaped_all_plain [] e = refl
escaped_all_plain (x ∷ xs) e = by_test (is_plain x) refl (escaped_all_plain xs) e
  where
    by_test : (t : Bool) → is_plain x ≡ t → (all_plain xs ≡ true → escaped_all xs ≡ xs) → (t && all_plain xs) ≡ true → escaped x ++ escaped_all xs ≡ x ∷ xs
    by_test true p rest q = rw (escaped_plain x p, rest q)
    by_test false p rest q = absurd (true≢false (sym q))

all_plain_append : (xs ys : List ℕ) → all_plain (xs ++ ys) ≡ (all_plain xs && all_plain ys)
unfolding all_plain
all_plain_append [] ys = refl
all_plain_append (x ∷ xs) ys = ap (λ (rest : Bool). is_plain x && rest) (all_plain_append xs ys) ∙ sym (and_assoc (is_plain x) (all_plain xs) (all_plain ys))

pub all_plain_snoc : (xs : List ℕ) (x : ℕ) → all_plain (xs ++ (x ∷ [])) ≡ (all_plain xs && is_plain x)
unfolding all_plain
all_plain_snoc xs x = all_plain_append xs (x ∷ []) ∙ ap (λ (last : Bool). all_plain xs && last) (and-true (is_plain x))

-- The first k bytes are plain and the last k, if these reach into one another: all are.
pub all_plain_lapped : (k : ℕ) (s : List ℕ) → k ≤ length s → length s ≤ k + k → (all_plain (take k s) && all_plain (take k (drop (length s - k) s))) ≡ all_plain s
all_plain_lapped k s h g =
    let j = length s - k in
    let x = take j s in
    let y = drop j s in
    let m = take (k - j) y in
    let z = drop (k - j) y in
    let size : k ≡ j + (k - j) = omega arith in
    let front : take k s ≡ x ++ m = ap (λ (n : ℕ). take n s) size ∙ take-add j (k - j) s in
    let back : take k y ≡ y = take_all k y (omega (arith, length-drop j s)) in
    let behind : all_plain y ≡ (all_plain m && all_plain z) = ap all_plain (sym (take-append-drop (k - j) y)) ∙ all_plain_append m z in
    let whole : all_plain s ≡ (all_plain x && all_plain y) = ap all_plain (sym (take-append-drop j s)) ∙ all_plain_append x y in
    rw (front, back, whole, all_plain_append x m, behind) (shared (all_plain x) (all_plain m) (all_plain z))
  where
    shared : (a b c : Bool) → ((a && b) && (b && c)) ≡ (a && (b && c))
    shared true true c = refl
    shared true false c = refl
    shared false b c = refl

-- ---- the first i bytes are looked at

module _ (block : List ℕ) (plain : Bool) (i : ℕ) (inv : plain ≡ all_plain (take i block)) where
  pub plain_more : (r : Bool) → r ≡ is_plain (get_or block i 0) → i < length block → (plain && r) ≡ all_plain (take (i + 1) block)
  plain_more r e h = rw (add-one, take-suc block i 0, all_plain_snoc, inv, e)
