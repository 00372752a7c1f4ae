-- A scan's position and the text from there on: an octet is read off the front of what is left, and past the end nothing is left.
-- And the tests of a range, at an octet inside it, below it and above it.
-- Assumes nothing.
use mathlib.Core.Path.{◌≡◌, refl, sym, ◌∙◌}
use mathlib.Core.Bool.{Bool, true, false, ◌&&◌, and-false, true≢false}
use mathlib.Core.Logic.{◌⊎◌, inl, inr}
use mathlib.Core.List.{List, [], ◌∷◌}
use Prim.Native.Nat.{ℕ, ◌+◌, ◌≤◌, ◌<◌}
use native.Mathlib.Numerals.{add-one}
use borrow.Author.Tests.{le-leb, lt-leb, leb-true, leb-false}
use lib.Dec.{leb}
use lib.ListN.{length, get_or, drop, drop_of_length-le}
use lib.Seq.{drop-cons}
use Rattle.text.specs.Grammar.{◌to◌, ◌∈◌}

pub drop_here : (s : List ℕ) (at : ℕ) → at < length s → drop at s ≡ get_or s at 0 ∷ drop (at + 1) s
drop_here s at h = rw (add-one, drop-cons s at 0)

pub drop_over : (s : List ℕ) (at : ℕ) → length s ≤ at → drop at s ≡ []
drop_over s at h = drop_of_length-le s h

pub le_or_lt : (a b : ℕ) → (a ≤ b) ⊎ (b < a)
le_or_lt a b = by_test (leb a b) refl
  where
    by_test : (t : Bool) → leb a b ≡ t → (a ≤ b) ⊎ (b < a)
    by_test true e = inl (leb-true a b e)
    by_test false e = inr (leb-false a b e)

pub in_range : (low high c : ℕ) → low ≤ c → c ≤ high → (c ∈ (low to high)) ≡ true
in_range low high c a b = simp (le-leb low c a, le-leb c high b)

pub below_range : (low high c : ℕ) → c < low → (c ∈ (low to high)) ≡ false
below_range low high c a = simp (lt-leb low c a)

pub above_range : (low high c : ℕ) → high < c → (c ∈ (low to high)) ≡ false
above_range low high c a = simp (lt-leb c high a) (and-false (leb low c))

pub and_left : (a b : Bool) → (a && b) ≡ true → a ≡ true
and_left true b e = refl
and_left false b e = e

pub and_right : (a b : Bool) → (a && b) ≡ true → b ≡ true
and_right true b e = e
and_right false b e = cc

pub range_holds : (low high c : ℕ) → (c ∈ (low to high)) ≡ true → (low ≤ c) × (c ≤ high)
range_holds low high c e =
    (leb-true low c (and_left (leb low c) (leb c high) e), leb-true c high (and_right (leb low c) (leb c high) e))

pub range_fails : (low high c : ℕ) → (c ∈ (low to high)) ≡ false → (c < low) ⊎ (high < c)
range_fails low high c e = by_test (leb low c) refl (leb c high) refl
  where
    by_test : (t : Bool) → leb low c ≡ t → (u : Bool) → leb c high ≡ u → (c < low) ⊎ (high < c)
    by_test false p u q = inl (leb-false low c p)
    by_test true p false q = inr (leb-false c high q)
    by_test true p true q = let z : ◌≡◌ {A = Bool} true false = sym (in_range low high c (leb-true low c p) (leb-true c high q)) ∙ e in absurd (true≢false z)
