-- A sequence while its continuation octets are read: what is still to come decides as `completes` says, and each octet that is
-- read is taken off its front. One law for each way through `decode_sequence`, `decode` and `is_utf8`.
-- Assumes nothing.
use mathlib.Core.Path.{◌≡◌, refl, sym, ap, ◌∙◌}
use mathlib.Core.Bool.{Bool, true, false, not, ◌&&◌, and-false, true≢false}
use mathlib.Core.Logic.{⊎_elim}
use mathlib.Core.List.{List, [], ◌∷◌}
use Prim.Native.Nat.{ℕ, zero, suc, ◌+◌, ◌-◌, ◌*◌, ◌%◌, ◌^◌, ◌≤◌, ◌<◌}
use native.Mathlib.Omega.{arith}
use borrow.Author.Tests.{not-true, not-false}
use lib.Dec.{ltb}
use lib.ListN.{length, get_or, take, drop, length-drop, take-append-drop}
use lib.Seq.{drop-drop}
use Rattle.text.specs.Grammar.{◌∈◌}
use Rattle.text.specs.Utf8.{UTF8-tail, is_utf8, octets_after, Leads, two, three, four, single, beyond, lead_bits, allowed, character_number}
use Rattle.text.specs.Ascii.{is_ascii}
use Rattle.text.specs.Found.{PastAscii, ReadChar}
use Rattle.text.proofs.Reading.{drop_here, drop_over, le_or_lt}
use mir.Syntax.{w8}
use Rattle.std.specs.Int.{leading_ones}
use Rattle.text.proofs.utf8.Octets.{leads_none}
use Rattle.text.proofs.utf8.Sequences.{completes, sequence, no_sequence}
use Rattle.text.proofs.utf8.Parts.{ascii_before}

-- the number that p and the continuation octets after it spell
unfoldable pub appended : ℕ → List ℕ → ℕ
appended p [] = p
appended p (b ∷ t) = appended (p * 64 + b % 64) t

-- a bound on a number to which k continuation octets are still to be appended
unfoldable pub room : ℕ → ℕ
room zero = 2 ^ 21
room (suc zero) = 2 ^ 15
room (suc (suc zero)) = 2 ^ 9
room (suc (suc (suc zero))) = 2 ^ 3
room (suc (suc (suc (suc k)))) = 0

-- the sequence of n octets from `at` on has been read up to i, and its octets so far spell p
pub record Half (s : List ℕ) (at n p i : ℕ) : Type 0 where
  pub begun : at < i
  pub upto : i ≤ at + n
  pub inside : at + n ≤ length s
  pub small : p < room (at + n - i)
  pub number : appended p (take (at + n - i) (drop i s)) ≡ character_number (take n (drop at s))
  pub same : is_utf8 (drop at s) ≡ completes n (at + n - i) p (drop i s)

room_fits : (k p : ℕ) → p < room k → p < 2 ^ 26
unfolding room
room_fits zero p h = omega arith
room_fits (suc zero) p h = omega arith
room_fits (suc (suc zero)) p h = omega arith
room_fits (suc (suc (suc zero))) p h = omega arith
room_fits (suc (suc (suc (suc k)))) p h = omega arith

room_next : (k p b : ℕ) → p < room (suc k) → p * 64 + b % 64 < room k
unfolding room
room_next zero p b h = omega arith
room_next (suc zero) p b h = omega arith
room_next (suc (suc zero)) p b h = omega arith
room_next (suc (suc (suc k))) p b h = let z : ⊥ = omega arith in absurd z

room_begin : (a n : ℕ) → Leads a n → (n ≡ 0 → ⊥) → lead_bits n a < room (n - 1)
unfolding room
room_begin a n (two h k) z = omega arith
room_begin a n (three h k) z = omega arith
room_begin a n (four h k) z = omega arith
room_begin a n (single h) z = absurd (z refl)
room_begin a n (beyond h) z = absurd (z refl)

number_two : (a : ℕ) (t : List ℕ) → 1 ≤ length t → appended (a % 32) (take 1 t) ≡ character_number (take 2 (a ∷ t))
unfolding appended character_number
number_two a [] h = let z : ⊥ = omega arith in absurd z
number_two a (b ∷ t) h = refl

number_three : (a : ℕ) (t : List ℕ) → 2 ≤ length t → appended (a % 16) (take 2 t) ≡ character_number (take 3 (a ∷ t))
unfolding appended character_number
number_three a [] h = let z : ⊥ = omega arith in absurd z
number_three a (b ∷ []) h = let z : ⊥ = omega arith in absurd z
number_three a (b ∷ c ∷ t) h = refl

number_four : (a : ℕ) (t : List ℕ) → 3 ≤ length t → appended (a % 8) (take 3 t) ≡ character_number (take 4 (a ∷ t))
unfolding appended character_number
number_four a [] h = let z : ⊥ = omega arith in absurd z
number_four a (b ∷ []) h = let z : ⊥ = omega arith in absurd z
number_four a (b ∷ c ∷ []) h = let z : ⊥ = omega arith in absurd z
number_four a (b ∷ c ∷ d ∷ t) h = refl

number_begin : (a n : ℕ) (t : List ℕ) → Leads a n → (n ≡ 0 → ⊥) → n ≤ suc (length t)
    → appended (lead_bits n a) (take (n - 1) t) ≡ character_number (take n (a ∷ t))
number_begin a n t (two h k) z l = number_two a t (omega arith)
number_begin a n t (three h k) z l = number_three a t (omega arith)
number_begin a n t (four h k) z l = number_four a t (omega arith)
number_begin a n t (single h) z l = absurd (z refl)
number_begin a n t (beyond h) z l = absurd (z refl)

-- a sequence has less than seven octets
pub leads_small : (a n : ℕ) → Leads a n → n < 7
leads_small a n (two h k) = omega arith
leads_small a n (three h k) = omega arith
leads_small a n (four h k) = omega arith
leads_small a n (single h) = omega arith
leads_small a n (beyond h) = omega arith

-- too few octets follow
completes_short : (n k p : ℕ) (t : List ℕ) → length t < k → completes n k p t ≡ false
unfolding completes
completes_short n zero p t h = let z : ⊥ = omega arith in absurd z
completes_short n (suc k) p [] h = refl
completes_short n (suc k) p (b ∷ t) h =
    ap (λ (x : Bool). (b ∈ UTF8-tail) && x) (completes_short n k (p * 64 + b % 64) t (omega arith)) ∙ and-false (b ∈ UTF8-tail)

-- ---- the ways through `decode_sequence`

module _ (s : List ℕ) (at : ℕ) (inside : at < length s) where
  module _ (n : ℕ) (leads : Leads (get_or s at 0) n) (led : 0 < n) where
    many : n ≡ 0 → ⊥
    many e = omega arith

    from_lead : is_utf8 (drop at s) ≡ completes n (n - 1) (lead_bits n (get_or s at 0)) (drop (at + 1) s)
    from_lead = ap is_utf8 (drop_here s at inside) ∙ sequence (get_or s at 0) n (drop (at + 1) s) leads many

    pub read_short : length s - at < n → is_utf8 (drop at s) ≡ false
    read_short h =
        from_lead ∙ completes_short n (n - 1) (lead_bits n (get_or s at 0)) (drop (at + 1) s) (simp length-drop (omega arith))

    pub half_begun : (p : ℕ) → n ≤ length s - at → p ≡ lead_bits n (get_or s at 0) → Half s at n p (at + 1)
    half_begun p h e =
        let left : at + n - (at + 1) ≡ n - 1 = omega arith in
        let fits : n ≤ suc (length (drop (at + 1) s)) = simp length-drop (omega arith) in
        record {
          begun = omega arith;
          upto = omega arith;
          inside = omega arith;
          small = rw (left, e) (room_begin (get_or s at 0) n leads many);
          number = rw (left, e, drop_here s at inside) (number_begin (get_or s at 0) n (drop (at + 1) s) leads many fits);
          same = rw (left, e) from_lead;
        }

module _ (s : List ℕ) (at n p i : ℕ) (half : Half s at n p i) where
  pub half_fits : p < 2 ^ 26
  half_fits = room_fits (at + n - i) p half.small

  module _ (h : i < at + n) where
    one_less : at + n - i ≡ suc (at + n - (i + 1))
    one_less = omega arith

    here : drop i s ≡ get_or s i 0 ∷ drop (i + 1) s
    here = drop_here s i (omega arith)

    pub half_refused : (r : Bool) → r ≡ (get_or s i 0 ∈ UTF8-tail) → not r ≡ true → is_utf8 (drop at s) ≡ false
    unfolding completes
    half_refused r e t =
        half.same ∙ rw (one_less, here, ← e, not-true r t)

    pub half_more : (r : Bool) (q : ℕ) → r ≡ (get_or s i 0 ∈ UTF8-tail) → not r ≡ false → q ≡ p * 64 + get_or s i 0 % 64
        → Half s at n q (i + 1)
    unfolding completes appended
    half_more r q e t eq =
        let k : ℕ = at + n - (i + 1) in
        record {
          begun = omega arith;
          upto = omega arith;
          inside = half.inside;
          small = rw eq (room_next k p (get_or s i 0) (rw one_less at half.small));
          number = rw eq (rw (one_less, here) at half.number);
          same = half.same ∙ rw (one_less, here, ← e, not-false r t, eq);
        }

  module _ (h : at + n ≤ i) (r : Bool) (e : r ≡ allowed n p) where
    none_left : at + n - i ≡ 0
    none_left = omega arith

    pub read_whole : r ≡ true → ReadChar s at p (at + n)
    unfolding completes appended
    read_whole t =
        let size : at + n - at ≡ n = omega arith in
        let end : i ≡ at + n = omega arith in
        record {
          further = omega arith;
          inside = half.inside;
          number = rw size (rw none_left at half.number);
          same = half.same ∙ rw (none_left, ← e, t, end);
        }

    pub read_not_allowed : r ≡ false → is_utf8 (drop at s) ≡ false
    unfolding completes
    read_not_allowed t = half.same ∙ rw (none_left, ← e, t)

-- ---- the ways through `decode`

pub read_no_lead : (s : List ℕ) (at n : ℕ) → at < length s → get_or s at 0 < 256 → n ≡ leading_ones w8 (get_or s at 0)
    → (n ≡ 2 → ⊥) → (n ≡ 3 → ⊥) → (n ≡ 4 → ⊥) → 0x80 ≤ get_or s at 0 → is_utf8 (drop at s) ≡ false
read_no_lead s at n inside fits ones n2 n3 n4 h =
    ap is_utf8 (drop_here s at inside)
    ∙ no_sequence (get_or s at 0) 0 (drop (at + 1) s) (leads_none (get_or s at 0) n fits ones n2 n3 n4) refl h

-- ---- the ways through `is_utf8`

module _ (s : List ℕ) (at next : ℕ) (past : PastAscii s 1 at next) where
  pub utf8_past : is_utf8 s ≡ is_utf8 (drop at s) → is_utf8 s ≡ is_utf8 (drop next s)
  utf8_past inv =
      let start : at + (next - at) ≡ next = omega arith in
      inv ∙ ap is_utf8 (sym (take-append-drop (next - at) (drop at s)))
      ∙ ascii_before (take (next - at) (drop at s)) (drop (next - at) (drop at s)) past.passed.ascii
      ∙ rw (drop-drop (next - at) at s, start)

  -- an octet of US-ASCII is passed
  pub utf8_past_nearer : (r : Bool) → at < length s → r ≡ ltb (get_or s at 0) 0x80 → r ≡ true → length s - next < length s - at
  unfolding is_ascii
  utf8_past_nearer r h low t =
      ⊎_elim
      (λ (p : next ≤ at).
      let e : next ≡ at = omega arith in
      let other : is_ascii (take 1 (drop at s)) ≡ false = rw e at (past.stopped (omega arith)) in
      let z : ◌≡◌ {A = Bool} true false = sym (rw (drop_here s at h, sym low, t)) ∙ other in
      absurd (true≢false z))
      (λ (p : at < next). omega arith)
      (le_or_lt next at)

pub utf8_ended : (s : List ℕ) (at : ℕ) → is_utf8 s ≡ is_utf8 (drop at s) → length s ≤ at → true ≡ is_utf8 s
unfolding is_utf8 octets_after
utf8_ended s at inv h = sym (inv ∙ rw (drop_over s at h))
