-- Equal bytes have equal hashes, so rows of different hashes have different texts. Assumes nothing.
use mathlib.Core.Path.{◌≡◌, refl, sym, ap, ◌∙◌}
use mathlib.Core.Bool.{Bool, true, false, not, false≢true}
use mathlib.Core.List.{List, [], ◌∷◌}
use Prim.Native.Nat.{ℕ, ◌+◌, ◌*◌, ◌%◌, ◌<◌}
use native.Mathlib.Numerals.{add-one}
use native.Mathlib.Omega.{arith}
use lib.Dec.{eqb}
use lib.ListN.{length, get_or, set}
use lib.Seq.{get_or-set_same, get_or-set_other}
use borrow.Author.Tests.{eqb-true, eqb-false, eq-eqb}
use Rattle.rows.specs.Strings.{same}
use Rattle.rows.proofs.Every.{and_left, and_right}
use Rattle.distinct.specs.Hash.{word_at, mixed, hash_steps, hash_of}
use Rattle.distinct.specs.Texts.{other_text, text_hash, text_chain, Hashed}

same_equal : (a b : List ℕ) → same a b ≡ true → a ≡ b
unfolding same
same_equal [] [] e = refl
same_equal [] (y ∷ b) e = absurd (false≢true e)
same_equal (x ∷ a) [] e = absurd (false≢true e)
same_equal (x ∷ a) (y ∷ b) e =
    let s : x ≡ y = eqb-true x y (and_left (eqb x y) (same a b) e) in
    rw (s, same_equal a b (and_right (eqb x y) (same a b) e))

-- a text is the same as itself
pub same_self : (a : List ℕ) → same a a ≡ true
unfolding same
same_self [] = refl
same_self (x ∷ a) = rw (eq-eqb x x refl) (same_self a)

-- eight bytes more
pub hash_more : (bytes : List ℕ) (n i : ℕ) → i ≡ 8 * n
    → hash_steps bytes (n + 1) ≡ mixed (hash_steps bytes n) (word_at bytes i) (word_at bytes (i + 4))
unfolding hash_steps
hash_more bytes n i e = rw (add-one, e)

module _ (texts : ℕ → List ℕ) where
  -- texts of different hashes differ
  pub hash_other : (one two : ℕ) → (text_hash texts one ≡ text_hash texts two → ⊥)
      → other_text texts one two ≡ true
  unfolding text_hash
  hash_other one two n = go (same (texts one) (texts two)) refl
    where
      go : (s : Bool) → same (texts one) (texts two) ≡ s → not s ≡ true
      go true e = absurd (n (ap hash_of (same_equal (texts one) (texts two) e)))
      go false e = refl

  -- and so do texts of different chains
  pub chain_other : (one two : ℕ) → (text_chain texts one ≡ text_chain texts two → ⊥)
      → other_text texts one two ≡ true
  unfolding text_chain
  chain_other one two n = hash_other one two (λ e. n (ap (λ (h : ℕ). h % 2048) e))

  pub hashed_none : (hashes : List ℕ) → Hashed texts 0 hashes
  hashed_none hashes = record { hashed = λ row h. absurd (omega arith) }

  -- one more is hashed
  pub hashed_one : (count : ℕ) (hashes : List ℕ) (hash : ℕ) → Hashed texts count hashes
      → hash ≡ text_hash texts count
      → count < length hashes → Hashed texts (count + 1) (set hashes count hash)
  hashed_one count hashes hash h e k = record { hashed = λ row m. go row m (eqb row count) refl }
    where
      go : (row : ℕ) → row < count + 1 → (b : Bool) → eqb row count ≡ b
          → get_or (set hashes count hash) row 0 ≡ text_hash texts row
      go row m true s = let n : row ≡ count = eqb-true row count s in rw n (get_or-set_same hashes count hash 0 k ∙ e)
      go row m false s =
          let n : row ≡ count → ⊥ = eqb-false row count s in
          get_or-set_other hashes count row hash 0 n ∙ h.hashed row (omega arith)

  -- rows with different hashes have different texts
  pub hashed_other : (count : ℕ) (hashes : List ℕ) (one two : ℕ) → Hashed texts count hashes → one < count → two < count
      → (get_or hashes one 0 ≡ get_or hashes two 0 → ⊥) → true ≡ other_text texts one two
  hashed_other count hashes one two h l m n = sym (hash_other one two (λ e. n (h.hashed one l ∙ e ∙ sym (h.hashed two m))))
