-- Records counted by their words: the words that are left are those of the records that are left, since each record says how long its path is. Assumes
-- nothing.
use mathlib.Core.Path.{◌≡◌, refl, sym, ap, ◌∙◌}
use mathlib.Core.List.{List, [], ◌∷◌}
use Prim.Native.Nat.{ℕ, suc, ◌+◌, ◌*◌, ◌≤◌, ◌<◌}
use native.Mathlib.Omega.{arith}
use lib.ListN.{length, get_or, take, drop, length-append, length-drop}
use lib.Seq.{get_or-drop, get_or-take, drop-drop, drop_at, length-take-le}
use Rattle.graphql.specs.Run.{name, index, Path, ErrorRecord}
use Rattle.graphql.specs.Report.{segment_words, record_words, words_of}
use Rattle.running.specs.Reporting.{Counts}

-- two words a segment
segments_length : (p : Path) → length (segment_words p) ≡ 2 * length p
unfolding segment_words
segments_length [] = refl
segments_length (name n ∷ p) = omega (arith, segments_length p)
segments_length (index i ∷ p) = omega (arith, segments_length p)

record_length : (r : ErrorRecord) → length (record_words r) ≡ 3 + 2 * length r.path
unfolding record_words
record_length r = omega (arith, segments_length r.path)

-- those of the records `rs` that were not counted
record Uncounted (ws : List ℕ) (at count : ℕ) (rs : List ErrorRecord) : Type 0 where
  left : List ErrorRecord
  words_left : drop at ws ≡ words_of left
  sum : count + length left ≡ length rs

-- Three words or more are left: so is a record, and its path's length is the third.
module _ (ws : List ℕ) (at count : ℕ) (rs : List ErrorRecord) where
  past : (r : ErrorRecord) (rest : List ErrorRecord) → drop at ws ≡ words_of (r ∷ rest) → count + suc (length rest) ≡ length rs
      → Uncounted ws (at + 3 + 2 * get_or ws (at + 2) 0) (count + 1) rs
  unfolding words_of record_words
  past r rest e s =
      let third : get_or ws (at + 2) 0 ≡ length r.path = sym (get_or-drop at ws 2 0) ∙ ap (λ (l : List ℕ). get_or l 2 0) e in
      let ahead : at + 3 + 2 * length r.path ≡ at + (3 + 2 * length r.path) = omega arith in
      record {
        left = rest;
        words_left = rw (third, ahead) (sym (drop-drop (3 + 2 * length r.path) at ws) ∙ ap (drop (3 + 2 * length r.path)) e
            ∙ drop_at (record_words r) (words_of rest) _ (record_length r));
        sum = omega arith;
      }

  next : (left : List ErrorRecord) → at + 2 < length ws → drop at ws ≡ words_of left → count + length left ≡ length rs
      → Uncounted ws (at + 3 + 2 * get_or ws (at + 2) 0) (count + 1) rs
  unfolding words_of
  next [] h e s = absurd (omega (arith, length-drop at ws, ap length e))
  next (r ∷ rest) h e s = past r rest e s

  -- Fewer are left: so is none.
  none_left : (left : List ErrorRecord) → length ws ≤ at + 2 → drop at ws ≡ words_of left → count + length left ≡ length rs → count ≡ length rs
  unfolding words_of
  none_left [] h e s = omega arith
  none_left (r ∷ rest) h e s =
      absurd (omega (arith, length-drop at ws, ap length e, length-append (record_words r) (words_of rest), record_length r))

pub record Counting (errors : List ℕ) (words at count : ℕ) : Type 0 where
  pub few : count ≤ at
  counted : (rs : List ErrorRecord) → take words errors ≡ words_of rs → Uncounted (take words errors) at count rs

module _ (errors : List ℕ) (words : ℕ) where
  pub counting_begin : Counting errors words 0 0
  counting_begin = record { few = omega arith; counted = λ rs e. record { left = rs; words_left = e; sum = omega arith } }

  module _ (fits : words ≤ length errors) {at count : ℕ} (g : Counting errors words at count) where
    pub counting_again : at + 2 < words → Counting errors words (at + 3 + 2 * get_or errors (at + 2) 0) (count + 1)
    counting_again h = record {
      few = omega (arith, g.few);
      counted = λ rs e.
          let u = g.counted rs e in
          rw (← (get_or-take words errors (at + 2) 0 h)) (next (take words errors) at count rs u.left (rw (length-take-le words errors fits) h) u.words_left u.sum);
    }

    pub counting_end : words ≤ at + 2 → Counts errors words count
    counting_end h = record {
      counts = λ rs e.
          let u = g.counted rs e in
          none_left (take words errors) at count rs u.left (rw (length-take-le words errors fits) h) u.words_left u.sum;
    }
