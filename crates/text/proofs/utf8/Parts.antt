-- Parts of a text. An octet of US-ASCII is a character by itself, so a part of a text in US-ASCII is UTF-8 wherever it lies. A part
-- of a text that is UTF-8 is so just if it begins and ends between characters, since only continuation octets stand inside of one.
-- Assumes nothing.
use mathlib.Core.Path.{◌≡◌, refl, sym, ap, ◌∙◌}
use mathlib.Core.Bool.{Bool, true, false, cond, not, ◌&&◌, ◌||◌, true≢false}
use mathlib.Core.List.{List, [], ◌∷◌, ◌++◌, append-nil}
use Rattle.std.specs.Prelude.{Option, Some, None}
use Prim.Native.Nat.{ℕ, zero, suc, ◌+◌, ◌-◌, ◌≤◌}
use native.Mathlib.Omega.{arith}
use borrow.Author.Tests.{ltb-true, leb-true, eq-eqb, ne_eqb, not-false}
use lib.Dec.{ltb, leb, eqb, eqb-suc-zero}
use lib.ListN.{length, get_or, take, drop, get_or-eq_default}
use lib.Seq.{get_or-drop}
use Rattle.text.specs.Grammar.{Range, ◌to◌, ◌∈◌, if_some}
use Rattle.text.specs.Ascii.{is_ascii}
use Rattle.text.specs.Utf8.{Form, ◌▹◌, UTF8-tail, UTF8-char, following, is_utf8, octets_after, is_boundary, single}
use Rattle.text.proofs.Reading.{and_left, and_right, in_range, range_holds}
use Rattle.text.proofs.utf8.Sequences.{single_octet, no_sequence}

-- ---- US-ASCII

pub ascii_before : (s t : List ℕ) → is_ascii s ≡ true → is_utf8 (s ++ t) ≡ is_utf8 t
unfolding is_ascii
ascii_before [] t e = refl
ascii_before (a ∷ s) t e =
    single_octet a (s ++ t) (ltb-true a 0x80 (and_left (ltb a 0x80) (is_ascii s) e)) ∙ ascii_before s t (and_right (ltb a 0x80) (is_ascii s) e)

ascii_drop : (m : ℕ) (s : List ℕ) → is_ascii s ≡ true → is_ascii (drop m s) ≡ true
unfolding is_ascii
ascii_drop zero s e = e
ascii_drop (suc m) [] e = e
ascii_drop (suc m) (a ∷ s) e = ascii_drop m s (and_right (ltb a 0x80) (is_ascii s) e)

ascii_take : (n : ℕ) (s : List ℕ) → is_ascii s ≡ true → is_ascii (take n s) ≡ true
unfolding is_ascii
ascii_take zero s e = refl
ascii_take (suc n) [] e = e
ascii_take (suc n) (a ∷ s) e = rw (and_left (ltb a 0x80) (is_ascii s) e) (ascii_take n s (and_right (ltb a 0x80) (is_ascii s) e))

-- n octets from the m-th on
pub ascii_part : (pool : List ℕ) (m n : ℕ) → is_ascii pool ≡ true → is_utf8 (take n (drop m pool)) ≡ true
unfolding is_utf8 octets_after
ascii_part pool m n e =
    let part : List ℕ = take n (drop m pool) in
    ap is_utf8 (sym (append-nil part)) ∙ ascii_before part [] (ascii_take n (drop m pool) (ascii_drop m pool e))

-- ---- what is inside of a character

-- ranges of continuation octets only
abbrev tails : List Range → Bool
tails [] = true
tails ((low to high) ∷ ranges) = (leb 0x80 low && leb high 0xBF) && tails ranges

abbrev tailed : List Form → Bool
tailed [] = true
tailed ((first ▹ others) ∷ forms) = tails others && tailed forms

tail_of : (b low high : ℕ) → (leb 0x80 low && leb high 0xBF) ≡ true → (b ∈ (low to high)) ≡ true → (b ∈ UTF8-tail) ≡ true
tail_of b low high w h =
    let inside : (low ≤ b) × (b ≤ high) = range_holds low high b h in
    let from : 0x80 ≤ low = leb-true 0x80 low (and_left (leb 0x80 low) (leb high 0xBF) w) in
    let upto : high ≤ 0xBF = leb-true high 0xBF (and_right (leb 0x80 low) (leb high 0xBF) w) in
    in_range 0x80 0xBF b (omega arith) (omega arith)

or_none : Option (List Range) → List Range
or_none None = []
or_none (Some ranges) = ranges

following_tails : (forms : List Form) (a : ℕ) → tailed forms ≡ true → tails (or_none (following forms a)) ≡ true
unfolding or_none
following_tails [] a e = refl
following_tails ((first ▹ others) ∷ forms) a e = by_test (a ∈ first) (following_tails forms a (and_right (tails others) (tailed forms) e))
  where
    by_test : (t : Bool) → tails (or_none (following forms a)) ≡ true → tails (or_none (cond t (Some others) (following forms a))) ≡ true
    by_test true later = and_left (tails others) (tailed forms) e
    by_test false later = later

-- what is still to come of a character after n more octets
due : ℕ → List ℕ → List Range → List Range
due zero s ranges = ranges
due (suc n) [] ranges = ranges
due (suc n) (a ∷ s) [] = due n s (or_none (following UTF8-char a))
due (suc n) (b ∷ s) (range ∷ ranges) = due n s ranges

abbrev is_none : List Range → Bool
is_none [] = true
is_none (range ∷ ranges) = false

due_tails : (n : ℕ) (s : List ℕ) (ranges : List Range) → tails ranges ≡ true → tails (due n s ranges) ≡ true
unfolding due
due_tails zero s ranges e = e
due_tails (suc n) [] ranges e = e
due_tails (suc n) (a ∷ s) [] e = due_tails n s (or_none (following UTF8-char a)) (following_tails UTF8-char a refl)
due_tails (suc n) (b ∷ s) ((low to high) ∷ ranges) e = due_tails n s ranges (and_right (leb 0x80 low && leb high 0xBF) (tails ranges) e)

-- a first octet that some line has, with what follows it in a text, and in another that begins alike
begun : (next : Option (List Range)) (s : List ℕ) → if_some next (octets_after s) ≡ true → octets_after s (or_none next) ≡ true
unfolding or_none
begun None s e = absurd (true≢false (sym e))
begun (Some ranges) s e = e

begun_alike : (next : Option (List Range)) (s t : List ℕ) → if_some next (octets_after s) ≡ true
    → if_some next (octets_after t) ≡ octets_after t (or_none next)
unfolding or_none
begun_alike None s t e = absurd (true≢false (sym e))
begun_alike (Some ranges) s t e = refl

-- behind n octets comes what is due there
due_drop : (n : ℕ) (s : List ℕ) (ranges : List Range) → octets_after s ranges ≡ true → octets_after (drop n s) (due n s ranges) ≡ true
unfolding due octets_after
due_drop zero s ranges e = e
due_drop (suc n) [] ranges e = e
due_drop (suc n) (a ∷ s) [] e = due_drop n s (or_none (following UTF8-char a)) (begun (following UTF8-char a) s e)
due_drop (suc n) (b ∷ s) (range ∷ ranges) e = due_drop n s ranges (and_right (b ∈ range) (octets_after s ranges) e)

nothing_due : (ranges : List Range) → octets_after [] ranges ≡ is_none ranges
unfolding octets_after
nothing_due [] = refl
nothing_due (range ∷ ranges) = refl

-- cut off after n octets, all is whole just if nothing is due there
due_take : (n : ℕ) (s : List ℕ) (ranges : List Range) → octets_after s ranges ≡ true → octets_after (take n s) ranges ≡ is_none (due n s ranges)
unfolding due octets_after
due_take zero s ranges e = nothing_due ranges
due_take (suc n) [] ranges e = nothing_due ranges
due_take (suc n) (a ∷ s) [] e =
    begun_alike (following UTF8-char a) s (take n s) e ∙ due_take n s (or_none (following UTF8-char a)) (begun (following UTF8-char a) s e)
due_take (suc n) (b ∷ s) (range ∷ ranges) e =
    rw (and_left (b ∈ range) (octets_after s ranges) e) (due_take n s ranges (and_right (b ∈ range) (octets_after s ranges) e))

-- ---- boundaries

tail_first : (b : ℕ) (t : List ℕ) → (b ∈ UTF8-tail) ≡ true → is_utf8 (b ∷ t) ≡ false
tail_first b t e =
    let inside : (0x80 ≤ b) × (b ≤ 0xBF) = range_holds 0x80 0xBF b e in
    no_sequence b 0 t (single (omega arith)) refl inside.0

due_none : (t : List ℕ) (ranges : List Range) → octets_after t ranges ≡ true → tails ranges ≡ true → is_none ranges ≡ not (get_or t 0 0 ∈ UTF8-tail)
unfolding octets_after is_utf8
due_none [] [] e w = refl
due_none [] (range ∷ ranges) e w = absurd (true≢false (sym e))
due_none (b ∷ t) [] e w = by_test (b ∈ UTF8-tail) refl
  where
    by_test : (u : Bool) → (b ∈ UTF8-tail) ≡ u → true ≡ not u
    by_test false p = refl
    by_test true p = absurd (true≢false (sym e ∙ tail_first b t p))
due_none (b ∷ t) ((low to high) ∷ ranges) e w =
    let among : (b ∈ UTF8-tail) ≡ true =
    tail_of b low high (and_left (leb 0x80 low && leb high 0xBF) (tails ranges) w) (and_left (b ∈ (low to high)) (octets_after t ranges) e) in
    rw among

is_none_lem : (ranges : List Range) → is_none ranges ≡ true → ranges ≡ []
is_none_lem [] e = refl
is_none_lem (range ∷ ranges) e = absurd (true≢false (sym e))

boundary_behind : (s : List ℕ) (m n : ℕ) → is_boundary (drop m s) n ≡ is_boundary s (m + n)
boundary_behind s m n = rw (get_or-drop m s n 0)

module _ (s : List ℕ) (valid : is_utf8 s ≡ true) (m : ℕ) where
  -- after m octets nothing is due just if a boundary is there
  none_due : is_none (due m s []) ≡ is_boundary s m
  unfolding is_utf8
  none_due =
      let here : m + 0 ≡ m = omega arith in
      due_none (drop m s) (due m s []) (due_drop m s [] valid) (due_tails m s [] refl) ∙ boundary_behind s m 0 ∙ ap (is_boundary s) here

  -- what stands before it
  cut_at : is_utf8 (take m s) ≡ is_boundary s m
  unfolding is_utf8
  cut_at = due_take m s [] valid ∙ none_due

  -- what stands behind a boundary
  behind_boundary : is_boundary s m ≡ true → is_utf8 (drop m s) ≡ true
  unfolding is_utf8
  behind_boundary e = rw (is_none_lem (due m s []) (none_due ∙ e)) at (due_drop m s [] valid)

-- a part that begins inside of a character
begun_inside : (t : List ℕ) (k : ℕ) → is_boundary t 0 ≡ false → is_utf8 (take (suc k) t) ≡ false
begun_inside [] k e = absurd (true≢false e)
begun_inside (b ∷ t) k e = tail_first b (take k t) (not-false (b ∈ UTF8-tail) e)

-- n octets from the m-th on, of a text that is UTF-8
pub utf8_part : (pool : List ℕ) → is_utf8 pool ≡ true → (m n : ℕ)
    → is_utf8 (take n (drop m pool)) ≡ (eqb n 0 || (is_boundary pool m && is_boundary pool (m + n)))
unfolding is_utf8 octets_after
utf8_part pool valid m zero = refl
utf8_part pool valid m (suc k) = by_test (is_boundary pool m) refl
  where
    by_test : (u : Bool) → is_boundary pool m ≡ u → is_utf8 (take (suc k) (drop m pool)) ≡ (eqb (suc k) 0 || (u && is_boundary pool (m + suc k)))
    by_test true p = rw eqb-suc-zero (cut_at (drop m pool) (behind_boundary pool valid m p) (suc k) ∙ boundary_behind pool m (suc k))
    by_test false p =
        let here : m + 0 ≡ m = omega arith in
        rw eqb-suc-zero (begun_inside (drop m pool) k (boundary_behind pool m 0 ∙ ap (is_boundary pool) here ∙ p))

-- ---- the ways through `is_boundary`

-- a text's end is a boundary
pub boundary_end : (s : List ℕ) (at : ℕ) → at ≡ length s → true ≡ is_boundary s at
boundary_end s at e = rw (get_or-eq_default s 0 {n = at} (omega arith))

-- and elsewhere one stands where no continuation octet does
pub boundary_looked : (s : List ℕ) (at : ℕ) (r : Bool) → r ≡ (get_or s at 0 ∈ UTF8-tail) → not r ≡ is_boundary s at
boundary_looked s at r e = ap not e

-- ---- the ways through `is_part_utf8`

pub part_empty : (pool : List ℕ) (start end : ℕ) → start ≡ end → eqb start end ≡ is_utf8 (take (end - start) (drop start pool))
unfolding is_utf8 octets_after
part_empty pool start end e = let nothing : end - start ≡ 0 = omega arith in eq-eqb start end e ∙ rw nothing

module _ (pool : List ℕ) (start end : ℕ) (valid : is_utf8 pool ≡ true) (order : start ≤ end) (apart : start ≡ end → ⊥) where
  part_ends : is_utf8 (take (end - start) (drop start pool)) ≡ (is_boundary pool start && is_boundary pool end)
  part_ends =
      let upto : start + (end - start) ≡ end = omega arith in
      utf8_part pool valid start (end - start) ∙ rw (ne_eqb (end - start) 0 (λ e. apart (omega arith)), upto)

  module _ (r : Bool) (e : r ≡ is_boundary pool start) where
    pub part_inside : r ≡ false → r ≡ is_utf8 (take (end - start) (drop start pool))
    part_inside t = t ∙ sym (part_ends ∙ rw (← e, t))

    pub part_from : (u : Bool) → r ≡ true → u ≡ is_boundary pool end → u ≡ is_utf8 (take (end - start) (drop start pool))
    part_from u t d = d ∙ sym (part_ends ∙ rw (← e, t))
