-- The words of an error record, as they are written: its head, and then a segment of its path at a time. Assumes nothing.
use mathlib.Core.Path.{◌≡◌, refl, sym, ap, ◌∙◌}
use mathlib.Core.List.{List, [], ◌∷◌, ◌++◌, map, map-append}
use Prim.Native.Nat.{ℕ, suc, ◌+◌, ◌-◌, ◌≤◌, ◌<◌}
use native.Mathlib.Omega.{arith}
use native.Mathlib.Numerals.{add-one}
use borrow.Author.Tests.{le-ltb}
use lib.ListN.{length, take, get_or, length-append, length-map}
use lib.Seq.{take-suc, length-take-le}
use Rattle.writing.specs.Wrote.{Writes}
use Rattle.writing.proofs.WritesLaws.{stay, same, «then»}
use Rattle.graphql.specs.Run.{name, index, Path}
use Rattle.graphql.specs.Report.{segment_words, record_words}
use Rattle.walking.specs.Paths.{segment_of}
use Rattle.walking.proofs.PathLaws.{segment_name}

pub segments_append : (p q : Path) → segment_words (p ++ q) ≡ segment_words p ++ segment_words q
unfolding segment_words
segments_append [] q = refl
segments_append (name n ∷ p) q = ap (λ (l : List ℕ). 0 ∷ n ∷ l) (segments_append p q)
segments_append (index i ∷ p) q = ap (λ (l : List ℕ). 1 ∷ i ∷ l) (segments_append p q)

-- ---- a segment

module _ {errors errors' : List ℕ} {at end : ℕ} where
  pub name_put : (w : ℕ) → w < 4096 → Writes errors errors' at end (0 ∷ w ∷ []) → Writes errors errors' at end (segment_words (segment_of w ∷ []))
  unfolding segment_words
  name_put w h r = rw (segment_name w h) r

  pub index_put : (w : ℕ) → 4096 ≤ w → Writes errors errors' at end (1 ∷ (w - 4096) ∷ [])
      → Writes errors errors' at end (segment_words (segment_of w ∷ []))
  unfolding segment_words
  index_put w h r = rw (le-ltb w 4096 h) r

-- ---- a record: before the i-th segment of the path

module _ (segments : List ℕ) (count : ℕ) (errors₀ : List ℕ) (from : ℕ) where
  abbrev before : ℕ → Path
  before i = map segment_of (take i segments)

  pub record Recording (errors : List ℕ) (next i : ℕ) : Type 0 where
    pub long : length segments ≡ 32
    pub small : count ≤ 32
    pub within : i ≤ count
    pub written : Writes errors₀ errors from next (segment_words (before i))

  pub recording_begin : length segments ≡ 32 → count ≤ 32 → Recording errors₀ from 0
  unfolding segment_words
  recording_begin l h = record { long = l; small = h; within = omega arith; written = stay errors₀ from }

  module _ {errors : List ℕ} {next i : ℕ} (g : Recording errors next i) where
    more : i < count → segment_words (before (i + 1)) ≡ segment_words (before i) ++ segment_words (segment_of (get_or segments i 0) ∷ [])
    more l =
        let e : take (suc i) segments ≡ take i segments ++ (get_or segments i 0 ∷ []) = take-suc segments i 0 (omega arith) in
        rw (add-one i, e, map-append segment_of (take i segments) (get_or segments i 0 ∷ []))
        (segments_append (before i) (segment_of (get_or segments i 0) ∷ []))

    pub recording_again : {errors' : List ℕ} {end : ℕ} → i < count
        → Writes errors errors' next end (segment_words (segment_of (get_or segments i 0) ∷ [])) → Recording errors' end (i + 1)
    recording_again l w = record { long = g.long; small = g.small; within = omega arith; written = same (sym (more l)) («then» g.written w) }

    -- with the head before it and the last segment behind it
    pub recording_ended : {errors₁ errors' : List ℕ} {at end : ℕ} (code place last : ℕ) → count ≤ i
        → Writes errors₁ errors₀ at from (code ∷ place ∷ (count + 1) ∷ [])
        → Writes errors errors' next end (segment_words (segment_of last ∷ []))
        → Writes errors₁ errors' at end (record_words (record { code = code; place = place; path = before count ++ (segment_of last ∷ []) }))
    unfolding record_words
    recording_ended code place last l h w =
        let e : i ≡ count = omega (arith, g.within) in
        let n : length (before count ++ (segment_of last ∷ [])) ≡ count + 1 =
        length-append (before count) (segment_of last ∷ []) ∙ rw (length-map, length-take-le count segments (omega arith)) in
        rw (n, segments_append) («then» h («then» (rw e at g.written) w))
