-- The bits of one octet as numbers: a mask is a remainder, a shift with an `|` is a sum, and the count of the ones that an octet
-- begins with says in which of the table's ranges it lies, which is tried at each of the 256 octets.
-- Assumes nothing.
use mathlib.Core.Path.{◌≡◌, refl, sym, ap, ◌∙◌, subst}
use mathlib.Core.Bool.{Bool, true, false, cond, not}
use mathlib.Core.Logic.{⊎_elim}
use Prim.Native.Nat.{ℕ, ◌+◌, ◌-◌, ◌*◌, ◌/◌, ◌%◌, ◌^◌, ◌≤◌, ◌<◌}
use native.Mathlib.Nat.{mod-eq_of_lt}
use native.Mathlib.Omega.{arith}
use borrow.Author.Tests.{le-leb, lt-leb, eq-eqb, ne_eqb, not-true}
use lib.Dec.{leb, eqb}
use lib.Bits.{bit_and, bit_or, and_mask, and_high, or_shifted}
use lib.Pow.{ones_split, high, ones_lt}
use lib.Count.{count_leading_zeros}
use mir.Syntax.{w8}
use Rattle.std.specs.Int.{leading_ones}
use Rattle.std.proofs.lemmas.Bool.{agree_below_at}
use Rattle.text.specs.Grammar.{◌to◌, ◌∈◌}
use Rattle.text.specs.Utf8.{UTF8-tail, Leads, two, three, four, single, beyond, lead_bits, least_for, allowed}
use Rattle.text.proofs.Reading.{le_or_lt, in_range, below_range, above_range, range_holds, range_fails}

-- ---- the ones that an octet begins with

-- what their number says of an octet
right : ℕ → Bool
right a =
    cond (eqb (leading_ones w8 a) 2) (a ∈ (0xC0 to 0xDF))
    (cond (eqb (leading_ones w8 a) 3) (a ∈ (0xE0 to 0xEF))
    (cond (eqb (leading_ones w8 a) 4) (a ∈ (0xF0 to 0xF7)) (not (a ∈ (0xC0 to 0xF7)))))

right_at : (a : ℕ) → a < 256 → right a ≡ true
unfolding right count_leading_zeros
right_at a h = agree_below_at right (λ b. true) 256 a refl h

module _ (a n : ℕ) (h : a < 256) (ones : n ≡ leading_ones w8 a) where
  pub leads_two : n ≡ 2 → Leads a 2
  unfolding right
  leads_two e =
      let t : (a ∈ (0xC0 to 0xDF)) ≡ true = simp (sym ones, e) at (right_at a h) in
      let b : (0xC0 ≤ a) × (a ≤ 0xDF) = range_holds 0xC0 0xDF a t in
      two b.0 (omega arith)

  pub leads_three : n ≡ 3 → Leads a 3
  unfolding right
  leads_three e =
      let t : (a ∈ (0xE0 to 0xEF)) ≡ true = simp (sym ones, e) at (right_at a h) in
      let b : (0xE0 ≤ a) × (a ≤ 0xEF) = range_holds 0xE0 0xEF a t in
      three b.0 (omega arith)

  pub leads_four : n ≡ 4 → Leads a 4
  unfolding right
  leads_four e =
      let t : (a ∈ (0xF0 to 0xF7)) ≡ true = simp (sym ones, e) at (right_at a h) in
      let b : (0xF0 ≤ a) × (a ≤ 0xF7) = range_holds 0xF0 0xF7 a t in
      four b.0 (omega arith)

  pub leads_none : (n ≡ 2 → ⊥) → (n ≡ 3 → ⊥) → (n ≡ 4 → ⊥) → Leads a 0
  unfolding right
  leads_none n2 n3 n4 =
      let t : not (a ∈ (0xC0 to 0xF7)) ≡ true = simp (sym ones, ne_eqb n 2 n2, ne_eqb n 3 n3, ne_eqb n 4 n4) at (right_at a h) in
      ⊎_elim (λ p. single p) (λ p. beyond p) (range_fails 0xC0 0xF7 a (not-true (a ∈ (0xC0 to 0xF7)) t))

-- ---- masks and shifts

pub lead_masked : (n a : ℕ) → n < 7 → bit_and a (127 / 2 ^ n) ≡ lead_bits n a
lead_masked n a h =
    let sum : 7 - n + n ≡ 7 = omega arith in
    let wide : 127 ≡ (2 ^ (7 - n) - 1) * 2 ^ n + (2 ^ n - 1) = subst (λ (k : ℕ). 2 ^ k - 1 ≡ (2 ^ (7 - n) - 1) * 2 ^ n + (2 ^ n - 1)) sum (ones_split (7 - n) n) in
    let mask : 127 / 2 ^ n ≡ 2 ^ (7 - n) - 1 = ap (λ (k : ℕ). k / 2 ^ n) wide ∙ high (2 ^ (7 - n) - 1) n (ones_lt n) in
    ap (bit_and a) mask ∙ and_mask a (7 - n)

-- an octet above the continuation octets is in the last quarter
third_quarter : (b : ℕ) → 0xBF < b → b < 256 → b / 64 % 4 ≡ 2 → ⊥
third_quarter b q h e =
    let last : b / 64 ≡ 3 = omega arith in
    let kept : b / 64 % 4 ≡ 3 = ap (λ (k : ℕ). k % 4) last in
    omega arith

-- the two highest bits say whether an octet continues a sequence
pub tail_test : (b : ℕ) → b < 256 → eqb (bit_and b 192) 128 ≡ (b ∈ UTF8-tail)
tail_test b h =
    let masked : bit_and b 192 ≡ b / 64 % 4 * 64 = and_high b 2 6 in
    ⊎_elim
    (λ (p : 0x80 ≤ b).
    ⊎_elim
    (λ (q : b ≤ 0xBF). eq-eqb (bit_and b 192) 128 (masked ∙ omega arith) ∙ sym (in_range 0x80 0xBF b p q))
    (λ (q : 0xBF < b). ne_eqb (bit_and b 192) 128 (λ e. third_quarter b q h (omega arith)) ∙ sym (above_range 0x80 0xBF b q))
    (le_or_lt b 0xBF))
    (λ (p : b < 0x80). ne_eqb (bit_and b 192) 128 (λ e. omega arith) ∙ sym (below_range 0x80 0xBF b p))
    (le_or_lt 0x80 b)

-- six more bits behind a number
pub tail_appended : (p b w : ℕ) → p < 2 ^ 26 → w ≡ bit_and b 63 → bit_or (p * 64 % 4294967296) w ≡ p * 64 + b % 64
tail_appended p b w h e =
    let bits : w ≡ b % 64 = e ∙ and_mask b 6 in
    let kept : p * 64 % 4294967296 ≡ p * 64 = mod-eq_of_lt (omega arith) in
    rw (kept, bits) (or_shifted p 6 (b % 64) (omega arith))

-- ---- the code points that a sequence may spell

module _ (n p l : ℕ) (e : l ≡ least_for n) where
  pub overlong : p < l → false ≡ allowed n p
  unfolding allowed
  overlong h = simp (lt-leb (least_for n) p (subst (λ (k : ℕ). p < k) e h))

  pub before_surrogates : l ≤ p → p < 0xD800 → true ≡ allowed n p
  unfolding allowed
  before_surrogates h k =
      simp (le-leb (least_for n) p (subst (λ (k : ℕ). k ≤ p) e h), below_range 0xD800 0xDFFF p k, le-leb p 0x10FFFF (omega arith))

  pub surrogate : l ≤ p → 0xD800 ≤ p → p ≤ 0xDFFF → false ≡ allowed n p
  unfolding allowed
  surrogate h k m = simp (le-leb (least_for n) p (subst (λ (k : ℕ). k ≤ p) e h), in_range 0xD800 0xDFFF p k m)

  pub after_surrogates : l ≤ p → 0xDFFF < p → leb p 0x10FFFF ≡ allowed n p
  unfolding allowed
  after_surrogates h k = simp (le-leb (least_for n) p (subst (λ (k : ℕ). k ≤ p) e h), above_range 0xD800 0xDFFF p k)
