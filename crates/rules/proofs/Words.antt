-- Tests that say the same, and what a test of a word says of the row that it stands for. Assumes nothing.
use mathlib.Core.Path.{◌≡◌, refl, sym}
use mathlib.Core.Bool.{Bool, true, false, ◌&&◌, cond}
use mathlib.Core.List.{List}
use Rattle.std.specs.Prelude.{Some, None}
use Prim.Native.Nat.{ℕ, ◌+◌, ◌-◌, ◌≤◌, ◌<◌}
use native.Mathlib.Omega.{arith}
use borrow.Author.Tests.{lt-ltb, le-leb, lt-leb, ltb-true, leb-true, eqb-true, eqb-false}
use lib.Dec.{ltb, leb, eqb}
use lib.ListN.{length, take, drop}
use Rattle.text.specs.Utf8.{is_utf8}
use Rattle.rows.specs.Rows.{option_of}
use Rattle.rows.specs.Document.{condition_of}
use Rattle.rules.specs.Rows.{row_or_none}
use Rattle.rules.specs.Document.{condition_lawful}
use Rattle.rows.specs.declared.document.Condition.TheVariants as condition

-- two tests of which each is true where the other is
pub same_truth : (a b : Bool) → (a ≡ true → b ≡ true) → (b ≡ true → a ≡ true) → a ≡ b
same_truth true b f g = sym (f refl)
same_truth false true f g = g refl
same_truth false false f g = refl

-- a row or none, by its word
pub option_row : (count word : ℕ) → row_or_none count (option_of word) ≡ leb word count
option_row count word = go (eqb word 0) refl
  where
    go : (b : Bool) → eqb word 0 ≡ b → row_or_none count (cond b None (Some (word - 1))) ≡ leb word count
    go true e = let z = eqb-true word 0 e in sym (le-leb word count (omega arith))
    go false e =
        let n = eqb-false word 0 e in
        same_truth (ltb (word - 1) count) (leb word count)
        (λ l. le-leb word count (omega (arith, ltb-true (word - 1) count l)))
        (λ l. lt-ltb (word - 1) count (omega (arith, leb-true word count l)))

-- a skip or an include, by its word
pub condition_word : (names word : ℕ) → condition_lawful names (condition_of word) ≡ ltb word (names + 3)
condition_word names word = go (eqb word 0) refl (eqb word 1) refl (eqb word 2) refl
  where
    go : (a : Bool) → eqb word 0 ≡ a → (b : Bool) → eqb word 1 ≡ b → (c : Bool) → eqb word 2 ≡ c
        → condition_lawful names (cond a condition.Absent (cond b condition.False (cond c condition.True (condition.Variable (word - 3)))))
        ≡ ltb word (names + 3)
    go true e b f c g = let z = eqb-true word 0 e in sym (lt-ltb word (names + 3) (omega arith))
    go false e true f c g = let z = eqb-true word 1 f in sym (lt-ltb word (names + 3) (omega arith))
    go false e false f true g = let z = eqb-true word 2 g in sym (lt-ltb word (names + 3) (omega arith))
    go false e false f false g =
        let x = eqb-false word 0 e in
        let y = eqb-false word 1 f in
        let z = eqb-false word 2 g in
        same_truth (ltb (word - 3) names) (ltb word (names + 3))
        (λ l. lt-ltb word (names + 3) (omega (arith, ltb-true (word - 3) names l)))
        (λ l. lt-ltb (word - 3) names (omega (arith, ltb-true word (names + 3) l)))

module _ (pool : List ℕ) (start len : ℕ) where
  -- a text that ends past the pool
  pub text_outside : length pool < start + len → false ≡ (leb (start + len) (length pool) && is_utf8 (take len (drop start pool)))
  text_outside h = rw (lt-leb (start + len) (length pool) h)

  -- and one that lies in it
  pub text_inside : (r : Bool) → start + len ≤ length pool → r ≡ is_utf8 (take (start + len - start) (drop start pool))
      → r ≡ (leb (start + len) (length pool) && is_utf8 (take len (drop start pool)))
  text_inside r h e =
      let n : start + len - start ≡ len = omega arith in
      rw (le-leb (start + len) (length pool) h) (rw n at e)
