-- The first line of a text ends at its first line feed, and the others are those of what stands behind it. Assumes nothing.
use Rattle.std.proofs.Common.{◌≡◌, ◌==◌, ℕ, suc, ◌+◌, ◌-◌, ◌<◌, ◌≤◌, List, [], ◌∷◌, length, take, drop, Bool, true, false, cond, not, refl, sym, ap, ◌∙◌, arith}
use Rattle.std.specs.Prelude.{Option, Some, None, position, unwrap_or}
use Rattle.std.specs.List.{position_or_len}
use Rattle.std.proofs.lemmas.List.{take_all, drop_all, length-take, length-drop}
use Rattle.std.proofs.lemmas.List.Quantifiers.{position-Some}
use borrow.Author.Tests.{ltb-false}
use Rattle.verdict.specs.Lines.{line_of}

-- how far the first line feed is, or the text's end
feed : List ℕ → ℕ
feed xs = position_or_len (λ (b : ℕ). b == 10) xs

first_line : (xs : List ℕ) → line_of xs 0 ≡ take (feed xs) xs
unfolding feed
first_line [] = refl
first_line (b ∷ xs) = by_byte (b == 10) (first_line xs)
  where
    by_byte :
        (t : Bool) → line_of xs 0 ≡ take (feed xs) xs
        → cond t [] (b ∷ line_of xs 0) ≡ take (cond (not t) (1 + feed xs) 0) (b ∷ xs)
    by_byte true h = refl
    by_byte false h = let more : 1 + feed xs ≡ suc (feed xs) = omega arith in rw (more, h) refl

other_line : (xs : List ℕ) (n : ℕ) → line_of xs (suc n) ≡ line_of (drop (suc (feed xs)) xs) n
unfolding feed
other_line [] n = refl
other_line (b ∷ xs) n = by_byte (b == 10) (other_line xs n)
  where
    by_byte :
        (t : Bool) → line_of xs (suc n) ≡ line_of (drop (suc (feed xs)) xs) n
        → cond t (line_of xs n) (line_of xs (suc n)) ≡ line_of (drop (suc (cond (not t) (1 + feed xs) 0)) (b ∷ xs)) n
    by_byte true h = refl
    by_byte false h = let more : 1 + feed xs ≡ suc (feed xs) = omega arith in rw more h

is_place : (t : Bool) (i k : ℕ) → cond t (Some i) None ≡ Some k → i ≡ k
is_place true i k e = cc
is_place false i k e = cc

is_none : (t : Bool) (i : ℕ) → cond t (Some i) None ≡ None → t ≡ false
is_none true i e = cc
is_none false i e = cc

at_feed : (xs : List ℕ) (k : ℕ) → position (λ (b : ℕ). b == 10) xs ≡ Some k → feed xs ≡ k
unfolding feed
at_feed xs k e = is_place _ _ _ e

no_feed : (xs : List ℕ) → position (λ (b : ℕ). b == 10) xs ≡ None → length xs ≤ feed xs
unfolding feed
no_feed xs e = ltb-false _ _ (is_none _ _ e)

pub last_line :
    (xs : List ℕ) (o : Option ℕ) (end : ℕ) → o ≡ position (λ (b : ℕ). b == 10) xs → end ≡ unwrap_or o (length xs) → take end xs ≡ line_of xs 0
last_line xs (Some k) end o e = rw (e, first_line xs, at_feed xs k (sym o)) refl
last_line xs None end o e =
    let all : length xs ≤ length xs = omega arith in
    rw (e, first_line xs, take_all (feed xs) xs (no_feed xs (sym o)), take_all (length xs) xs all) refl

-- a line that is not the first, of a text with no line feed and of one with a line feed at k
module _ (xs : List ℕ) (n : ℕ) (more : 0 < n) where
  before : suc (n - 1) ≡ n
  before = omega arith

  pub no_line : position (λ (b : ℕ). b == 10) xs ≡ None → [] ≡ line_of xs n
  no_line o =
      let far : length xs ≤ suc (feed xs) = omega (arith, no_feed xs o) in
      let none = other_line xs (n - 1) ∙ ap (λ (l : List ℕ). line_of l (n - 1)) (drop_all (suc (feed xs)) xs far) in
      sym (ap (line_of xs) (sym before) ∙ none)

  pub line_behind : (k : ℕ) → position (λ (b : ℕ). b == 10) xs ≡ Some k → line_of xs n ≡ line_of (take (length xs - (k + 1)) (drop (k + 1) xs)) (n - 1)
  line_behind k o =
      let all : length (drop (k + 1) xs) ≤ length xs - (k + 1) = omega (arith, length-drop (k + 1) xs) in
      let place : suc (feed xs) ≡ k + 1 = omega (arith, at_feed xs k o) in
      let left = ap (λ (m : ℕ). drop m xs) place ∙ sym (take_all (length xs - (k + 1)) (drop (k + 1) xs) all) in
      ap (line_of xs) (sym before) ∙ (other_line xs (n - 1) ∙ ap (λ (l : List ℕ). line_of l (n - 1)) left)

pub feed_inside : (xs : List ℕ) (k : ℕ) → position (λ (b : ℕ). b == 10) xs ≡ Some k → k < length xs
feed_inside xs k o = let there = position-Some (λ (b : ℕ). b == 10) xs k 0 o in there.0

pub no_longer : (xs : List ℕ) (m k most : ℕ) → length xs ≤ most → length (take m (drop k xs)) ≤ most
no_longer xs m k most h = omega (arith, h, length-take m (drop k xs), length-drop k xs)
