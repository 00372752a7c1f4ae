-- Section 3 and section 4 of RFC 3629 agree: a text that begins with a first octet of n octets is UTF-8 by the ABNF just if
-- n - 1 continuation octets follow, the number that the n spell is one that n octets may spell, and the text after them is UTF-8.
-- It is shown for each line of the ABNF, where a range of the second octet is a bound on the number.
-- Assumes nothing.
use mathlib.Core.Path.{◌≡◌, refl, sym, ap, ◌∙◌, subst}
use mathlib.Core.Bool.{Bool, true, false, ◌&&◌, and-false}
use mathlib.Core.Logic.{⊎_elim}
use mathlib.Core.List.{List, [], ◌∷◌}
use Rattle.std.specs.Prelude.{Some, None}
use Prim.Native.Nat.{ℕ, zero, suc, ◌+◌, ◌-◌, ◌*◌, ◌%◌, ◌≤◌, ◌<◌}
use native.Mathlib.Omega.{arith}
use borrow.Author.Tests.{le-leb, lt-leb}
use Rattle.text.specs.Grammar.{Range, ◌to◌, ◌∈◌}
use Rattle.text.specs.Utf8.{UTF8-tail, UTF8-char, following, octets_after, is_utf8, Leads, two, three, four, single, beyond, lead_bits, allowed}
use Rattle.text.proofs.Reading.{le_or_lt, in_range, below_range, above_range, range_holds, range_fails}
use Rattle.text.proofs.utf8.Octets.{overlong, before_surrogates, surrogate, after_surrogates}

-- Whether the octets are k continuation octets that complete a sequence of n, of which the earlier ones spell p, and then UTF-8.
unfoldable pub completes : ℕ → ℕ → ℕ → List ℕ → Bool
completes n zero p t = allowed n p && is_utf8 t
completes n (suc k) p [] = false
completes n (suc k) p (b ∷ t) = (b ∈ UTF8-tail) && completes n k (p * 64 + b % 64) t

-- ---- the lines of the ABNF

module _ (a : ℕ) where
  follow_none : 0x80 ≤ a → a < 0xC2 → following UTF8-char a ≡ None
  follow_none h k =
      simp (
        above_range 0x00 0x7F a (omega arith),
        below_range 0xC2 0xDF a (omega arith),
        below_range 0xE0 0xE0 a (omega arith),
        below_range 0xE1 0xEC a (omega arith),
        below_range 0xED 0xED a (omega arith),
        below_range 0xEE 0xEF a (omega arith),
        below_range 0xF0 0xF0 a (omega arith),
        below_range 0xF1 0xF3 a (omega arith),
        below_range 0xF4 0xF4 a (omega arith),
      )

  follow_two : 0xC2 ≤ a → a ≤ 0xDF → following UTF8-char a ≡ Some (UTF8-tail ∷ [])
  follow_two h k = simp (above_range 0x00 0x7F a (omega arith), in_range 0xC2 0xDF a h k)

  follow_e1 : 0xE1 ≤ a → a ≤ 0xEC → following UTF8-char a ≡ Some (UTF8-tail ∷ UTF8-tail ∷ [])
  follow_e1 h k =
      simp (
        above_range 0x00 0x7F a (omega arith),
        above_range 0xC2 0xDF a (omega arith),
        above_range 0xE0 0xE0 a (omega arith),
        in_range 0xE1 0xEC a h k,
      )

  follow_ee : 0xEE ≤ a → a ≤ 0xEF → following UTF8-char a ≡ Some (UTF8-tail ∷ UTF8-tail ∷ [])
  follow_ee h k =
      simp (
        above_range 0x00 0x7F a (omega arith),
        above_range 0xC2 0xDF a (omega arith),
        above_range 0xE0 0xE0 a (omega arith),
        above_range 0xE1 0xEC a (omega arith),
        above_range 0xED 0xED a (omega arith),
        in_range 0xEE 0xEF a h k,
      )

  follow_f1 : 0xF1 ≤ a → a ≤ 0xF3 → following UTF8-char a ≡ Some (UTF8-tail ∷ UTF8-tail ∷ UTF8-tail ∷ [])
  follow_f1 h k =
      simp (
        above_range 0x00 0x7F a (omega arith),
        above_range 0xC2 0xDF a (omega arith),
        above_range 0xE0 0xE0 a (omega arith),
        above_range 0xE1 0xEC a (omega arith),
        above_range 0xED 0xED a (omega arith),
        above_range 0xEE 0xEF a (omega arith),
        above_range 0xF0 0xF0 a (omega arith),
        in_range 0xF1 0xF3 a h k,
      )

  follow_beyond : 0xF5 ≤ a → following UTF8-char a ≡ None
  follow_beyond h =
      simp (
        above_range 0x00 0x7F a (omega arith),
        above_range 0xC2 0xDF a (omega arith),
        above_range 0xE0 0xE0 a (omega arith),
        above_range 0xE1 0xEC a (omega arith),
        above_range 0xED 0xED a (omega arith),
        above_range 0xEE 0xEF a (omega arith),
        above_range 0xF0 0xF0 a (omega arith),
        above_range 0xF1 0xF3 a (omega arith),
        above_range 0xF4 0xF4 a (omega arith),
      )

-- a first octet that no line has
pub refused : (a : ℕ) (t : List ℕ) → following UTF8-char a ≡ None → is_utf8 (a ∷ t) ≡ false
unfolding is_utf8 octets_after
refused a t e = rw (is_utf8, octets_after, e)

pub single_octet : (a : ℕ) (t : List ℕ) → a < 0x80 → is_utf8 (a ∷ t) ≡ is_utf8 t
unfolding is_utf8 octets_after
single_octet a t h = simp (in_range 0x00 0x7F a (omega arith) (omega arith))

-- ---- the second octet's range is a bound on the number

-- b is whether the second octet is a continuation octet, r whether it is in its line's range, and a whether the number is allowed
as_range : (b r a : Bool) → (b ≡ true → r ≡ a) → (b ≡ false → r ≡ false) → r ≡ (b && a)
as_range true r a f g = f refl
as_range false r a f g = g refl

order_three : (b c a u : Bool) → ((b && a) && (c && u)) ≡ (b && (c && (a && u)))
order_three false c a u = refl
order_three true true a u = refl
order_three true false a u = and-false a

order_four : (b c d a u : Bool) → ((b && a) && (c && (d && u))) ≡ (b && (c && (d && (a && u))))
order_four false c d a u = refl
order_four true true true a u = refl
order_four true true false a u = and-false a
order_four true false d a u = and-false a

pub two_octets : (a p : ℕ) → following UTF8-char a ≡ Some (UTF8-tail ∷ []) → ((b : ℕ) → true ≡ allowed 2 (p * 64 + b % 64))
    → (t : List ℕ) → is_utf8 (a ∷ t) ≡ completes 2 1 p t
unfolding is_utf8 octets_after completes
two_octets a p e f [] = rw (octets_after, e)
two_octets a p e f (b ∷ t) = rw (octets_after, e, ← f b)

module _ (a p : ℕ) (range : Range) where
  three_octets : following UTF8-char a ≡ Some (range ∷ UTF8-tail ∷ [])
      → ((b c : ℕ) → (b ∈ UTF8-tail) ≡ true → (b ∈ range) ≡ allowed 3 ((p * 64 + b % 64) * 64 + c % 64))
      → ((b : ℕ) → (b ∈ UTF8-tail) ≡ false → (b ∈ range) ≡ false)
      → (t : List ℕ) → is_utf8 (a ∷ t) ≡ completes 3 2 p t
  unfolding is_utf8 octets_after completes
  three_octets e f g [] = rw (octets_after, e)
  three_octets e f g (b ∷ []) = rw (octets_after, e) (and-false (b ∈ range) ∙ sym (and-false (b ∈ UTF8-tail)))
  three_octets e f g (b ∷ c ∷ t) =
      let n : ℕ = (p * 64 + b % 64) * 64 + c % 64 in
      rw (octets_after, e)
      (ap (λ (r : Bool). r && ((c ∈ UTF8-tail) && octets_after t [])) (as_range (b ∈ UTF8-tail) (b ∈ range) (allowed 3 n) (f b c) (g b))
      ∙ order_three (b ∈ UTF8-tail) (c ∈ UTF8-tail) (allowed 3 n) (octets_after t []))

  four_octets : following UTF8-char a ≡ Some (range ∷ UTF8-tail ∷ UTF8-tail ∷ [])
      → ((b c d : ℕ) → (b ∈ UTF8-tail) ≡ true → (b ∈ range) ≡ allowed 4 (((p * 64 + b % 64) * 64 + c % 64) * 64 + d % 64))
      → ((b : ℕ) → (b ∈ UTF8-tail) ≡ false → (b ∈ range) ≡ false)
      → (t : List ℕ) → is_utf8 (a ∷ t) ≡ completes 4 3 p t
  unfolding is_utf8 octets_after completes
  four_octets e f g [] = rw (octets_after, e)
  four_octets e f g (b ∷ []) = rw (octets_after, e) (and-false (b ∈ range) ∙ sym (and-false (b ∈ UTF8-tail)))
  four_octets e f g (b ∷ c ∷ []) =
      rw (octets_after, e) (ap (λ (x : Bool). (b ∈ range) && x) (and-false (c ∈ UTF8-tail)) ∙ and-false (b ∈ range)
      ∙ sym (ap (λ (x : Bool). (b ∈ UTF8-tail) && x) (and-false (c ∈ UTF8-tail)) ∙ and-false (b ∈ UTF8-tail)))
  four_octets e f g (b ∷ c ∷ d ∷ t) =
      let n : ℕ = ((p * 64 + b % 64) * 64 + c % 64) * 64 + d % 64 in
      rw (octets_after, e)
      (ap (λ (r : Bool). r && ((c ∈ UTF8-tail) && ((d ∈ UTF8-tail) && octets_after t [])))
      (as_range (b ∈ UTF8-tail) (b ∈ range) (allowed 4 n) (f b c d) (g b))
      ∙ order_four (b ∈ UTF8-tail) (c ∈ UTF8-tail) (d ∈ UTF8-tail) (allowed 4 n) (octets_after t []))

-- ---- the rows of section 3

module _ (a : ℕ) where
  line_c0 : 0xC0 ≤ a → a < 0xC2 → (t : List ℕ) → completes 2 1 (a % 32) t ≡ false
  unfolding completes
  line_c0 h k [] = refl
  line_c0 h k (b ∷ t) = rw (← overlong 2 (a % 32 * 64 + b % 64) 0x80 refl (omega arith)) (and-false (b ∈ UTF8-tail))

  two_lines : 0xC0 ≤ a → a < 0xE0 → (t : List ℕ) → is_utf8 (a ∷ t) ≡ completes 2 1 (lead_bits 2 a) t
  two_lines h k t =
      ⊎_elim
      (λ (p : 0xC2 ≤ a).
      two_octets a (a % 32) (follow_two a p (omega arith))
      (λ b. before_surrogates 2 (a % 32 * 64 + b % 64) 0x80 refl (omega arith) (omega arith)) t)
      (λ (p : a < 0xC2). refused a t (follow_none a (omega arith) p) ∙ sym (line_c0 h p t))
      (le_or_lt 0xC2 a)

line_e0 : (t : List ℕ) → is_utf8 (0xE0 ∷ t) ≡ completes 3 2 0 t
line_e0 t =
    three_octets 0xE0 0 (0xA0 to 0xBF) refl
    (λ b c e.
    let tail : (0x80 ≤ b) × (b ≤ 0xBF) = range_holds 0x80 0xBF b e in
    ⊎_elim
    (λ (p : 0xA0 ≤ b). in_range 0xA0 0xBF b p tail.1 ∙ before_surrogates 3 _ 0x800 refl (omega arith) (omega arith))
    (λ (p : b < 0xA0). below_range 0xA0 0xBF b p ∙ overlong 3 _ 0x800 refl (omega arith))
    (le_or_lt 0xA0 b))
    (λ b e. ⊎_elim (λ p. below_range 0xA0 0xBF b (omega arith)) (λ p. above_range 0xA0 0xBF b (omega arith)) (range_fails 0x80 0xBF b e))
    t

line_e1 : (a : ℕ) → 0xE1 ≤ a → a ≤ 0xEC → (t : List ℕ) → is_utf8 (a ∷ t) ≡ completes 3 2 (lead_bits 3 a) t
line_e1 a h k =
    three_octets a (a % 16) UTF8-tail (follow_e1 a h k)
    (λ b c e. e ∙ before_surrogates 3 ((a % 16 * 64 + b % 64) * 64 + c % 64) 0x800 refl (omega arith) (omega arith))
    (λ b e. e)

line_ed : (t : List ℕ) → is_utf8 (0xED ∷ t) ≡ completes 3 2 13 t
line_ed t =
    three_octets 0xED 13 (0x80 to 0x9F) refl
    (λ b c e.
    let tail : (0x80 ≤ b) × (b ≤ 0xBF) = range_holds 0x80 0xBF b e in
    ⊎_elim
    (λ (p : b ≤ 0x9F). in_range 0x80 0x9F b tail.0 p ∙ before_surrogates 3 _ 0x800 refl (omega arith) (omega arith))
    (λ (p : 0x9F < b). above_range 0x80 0x9F b p ∙ surrogate 3 _ 0x800 refl (omega arith) (omega arith) (omega arith))
    (le_or_lt b 0x9F))
    (λ b e. ⊎_elim (λ p. below_range 0x80 0x9F b (omega arith)) (λ p. above_range 0x80 0x9F b (omega arith)) (range_fails 0x80 0xBF b e))
    t

line_ee : (a : ℕ) → 0xEE ≤ a → a ≤ 0xEF → (t : List ℕ) → is_utf8 (a ∷ t) ≡ completes 3 2 (lead_bits 3 a) t
line_ee a h k =
    three_octets a (a % 16) UTF8-tail (follow_ee a h k)
    (λ b c e.
    let n : ℕ = (a % 16 * 64 + b % 64) * 64 + c % 64 in
    e ∙ sym (le-leb n 0x10FFFF (omega arith)) ∙ after_surrogates 3 n 0x800 refl (omega arith) (omega arith))
    (λ b e. e)

three_lines : (a : ℕ) → 0xE0 ≤ a → a < 0xF0 → (t : List ℕ) → is_utf8 (a ∷ t) ≡ completes 3 2 (lead_bits 3 a) t
three_lines a h k t =
    ⊎_elim
    (λ (p : 0xE1 ≤ a).
    ⊎_elim
    (λ (q : 0xED ≤ a).
    ⊎_elim
    (λ (r : 0xEE ≤ a). line_ee a r (omega arith) t)
    (λ (r : a < 0xEE). let e : 0xED ≡ a = omega arith in subst (λ (x : ℕ). is_utf8 (x ∷ t) ≡ completes 3 2 (lead_bits 3 x) t) e (line_ed t))
    (le_or_lt 0xEE a))
    (λ (q : a < 0xED). line_e1 a p (omega arith) t)
    (le_or_lt 0xED a))
    (λ (p : a < 0xE1). let e : 0xE0 ≡ a = omega arith in subst (λ (x : ℕ). is_utf8 (x ∷ t) ≡ completes 3 2 (lead_bits 3 x) t) e (line_e0 t))
    (le_or_lt 0xE1 a)

line_f0 : (t : List ℕ) → is_utf8 (0xF0 ∷ t) ≡ completes 4 3 0 t
line_f0 t =
    four_octets 0xF0 0 (0x90 to 0xBF) refl
    (λ b c d e.
    let tail : (0x80 ≤ b) × (b ≤ 0xBF) = range_holds 0x80 0xBF b e in
    let n : ℕ = ((0 * 64 + b % 64) * 64 + c % 64) * 64 + d % 64 in
    ⊎_elim
    (λ (p : 0x90 ≤ b). in_range 0x90 0xBF b p tail.1 ∙ sym (le-leb n 0x10FFFF (omega arith)) ∙ after_surrogates 4 n 0x10000 refl (omega arith) (omega arith))
    (λ (p : b < 0x90). below_range 0x90 0xBF b p ∙ overlong 4 n 0x10000 refl (omega arith))
    (le_or_lt 0x90 b))
    (λ b e. ⊎_elim (λ p. below_range 0x90 0xBF b (omega arith)) (λ p. above_range 0x90 0xBF b (omega arith)) (range_fails 0x80 0xBF b e))
    t

line_f1 : (a : ℕ) → 0xF1 ≤ a → a ≤ 0xF3 → (t : List ℕ) → is_utf8 (a ∷ t) ≡ completes 4 3 (lead_bits 4 a) t
line_f1 a h k =
    four_octets a (a % 8) UTF8-tail (follow_f1 a h k)
    (λ b c d e.
    let n : ℕ = ((a % 8 * 64 + b % 64) * 64 + c % 64) * 64 + d % 64 in
    e ∙ sym (le-leb n 0x10FFFF (omega arith)) ∙ after_surrogates 4 n 0x10000 refl (omega arith) (omega arith))
    (λ b e. e)

line_f4 : (t : List ℕ) → is_utf8 (0xF4 ∷ t) ≡ completes 4 3 4 t
line_f4 t =
    four_octets 0xF4 4 (0x80 to 0x8F) refl
    (λ b c d e.
    let tail : (0x80 ≤ b) × (b ≤ 0xBF) = range_holds 0x80 0xBF b e in
    let n : ℕ = ((4 * 64 + b % 64) * 64 + c % 64) * 64 + d % 64 in
    ⊎_elim
    (λ (p : b ≤ 0x8F). in_range 0x80 0x8F b tail.0 p ∙ sym (le-leb n 0x10FFFF (omega arith)) ∙ after_surrogates 4 n 0x10000 refl (omega arith) (omega arith))
    (λ (p : 0x8F < b). above_range 0x80 0x8F b p ∙ sym (lt-leb n 0x10FFFF (omega arith)) ∙ after_surrogates 4 n 0x10000 refl (omega arith) (omega arith))
    (le_or_lt b 0x8F))
    (λ b e. ⊎_elim (λ p. below_range 0x80 0x8F b (omega arith)) (λ p. above_range 0x80 0x8F b (omega arith)) (range_fails 0x80 0xBF b e))
    t

line_f5 : (a : ℕ) → 0xF5 ≤ a → a < 0xF8 → (t : List ℕ) → completes 4 3 (a % 8) t ≡ false
unfolding completes
line_f5 a h k [] = refl
line_f5 a h k (b ∷ []) = and-false (b ∈ UTF8-tail)
line_f5 a h k (b ∷ c ∷ []) = ap (λ (x : Bool). (b ∈ UTF8-tail) && x) (and-false (c ∈ UTF8-tail)) ∙ and-false (b ∈ UTF8-tail)
line_f5 a h k (b ∷ c ∷ d ∷ t) =
    let n : ℕ = ((a % 8 * 64 + b % 64) * 64 + c % 64) * 64 + d % 64 in
    let above : allowed 4 n ≡ false = sym (after_surrogates 4 n 0x10000 refl (omega arith) (omega arith)) ∙ lt-leb n 0x10FFFF (omega arith) in
    simp (above, and-false)

four_lines : (a : ℕ) → 0xF0 ≤ a → a < 0xF8 → (t : List ℕ) → is_utf8 (a ∷ t) ≡ completes 4 3 (lead_bits 4 a) t
four_lines a h k t =
    ⊎_elim
    (λ (p : 0xF1 ≤ a).
    ⊎_elim
    (λ (q : 0xF4 ≤ a).
    ⊎_elim
    (λ (r : 0xF5 ≤ a). refused a t (follow_beyond a r) ∙ sym (line_f5 a r k t))
    (λ (r : a < 0xF5). let e : 0xF4 ≡ a = omega arith in subst (λ (x : ℕ). is_utf8 (x ∷ t) ≡ completes 4 3 (lead_bits 4 x) t) e (line_f4 t))
    (le_or_lt 0xF5 a))
    (λ (q : a < 0xF4). line_f1 a p (omega arith) t)
    (le_or_lt 0xF4 a))
    (λ (p : a < 0xF1). let e : 0xF0 ≡ a = omega arith in subst (λ (x : ℕ). is_utf8 (x ∷ t) ≡ completes 4 3 (lead_bits 4 x) t) e (line_f0 t))
    (le_or_lt 0xF1 a)

pub sequence : (a n : ℕ) (t : List ℕ) → Leads a n → (n ≡ 0 → ⊥) → is_utf8 (a ∷ t) ≡ completes n (n - 1) (lead_bits n a) t
sequence a n t (two h k) z = two_lines a h k t
sequence a n t (three h k) z = three_lines a h k t
sequence a n t (four h k) z = four_lines a h k t
sequence a n t (single h) z = absurd (z refl)
sequence a n t (beyond h) z = absurd (z refl)

pub no_sequence : (a n : ℕ) (t : List ℕ) → Leads a n → n ≡ 0 → 0x80 ≤ a → is_utf8 (a ∷ t) ≡ false
no_sequence a n t (two h k) e low = let z : ⊥ = omega arith in absurd z
no_sequence a n t (three h k) e low = let z : ⊥ = omega arith in absurd z
no_sequence a n t (four h k) e low = let z : ⊥ = omega arith in absurd z
no_sequence a n t (single h) e low = refused a t (follow_none a low (omega arith))
no_sequence a n t (beyond h) e low = refused a t (follow_beyond a (omega arith))
