-- A bit that is read, and a bit that is set, digit by digit. Assumes nothing.
use mathlib.Core.Path.{◌≡◌, refl, sym, ◌∙◌}
use mathlib.Core.Bool.{false, not, ◌||◌}
use Prim.Native.Nat.{ℕ, zero, suc, ◌+◌, ◌*◌, ◌/◌, ◌%◌, ◌^◌, ◌<◌}
use native.Mathlib.Nat.{min-zero}
use native.Mathlib.Omega.{arith}
use lib.Dec.{eqb, eqb-suc-suc, eqb-suc-zero, eqb-zero-suc}
use lib.Bits.{bit_and, bit_or, and_step, and_mask, or_zero_r, or_comm, or_shr, or_mod, shifted_half, shifted_even}
use lib.Pow.{shl_exact}
use borrow.Author.Tests.{eq-eqb, ne_eqb}
use Rattle.collecting.specs.Visited.{is_marked}

-- a digit is 0 or 1
digit : (n : ℕ) → n < 2 → not (eqb n 0) ≡ eqb n 1
digit zero l = refl
digit (suc zero) l = refl
digit (suc (suc n)) l = absurd (omega arith)

either_one : (n : ℕ) → n < 2 → bit_or 1 n ≡ 1
either_one zero l = refl
either_one (suc zero) l = refl
either_one (suc (suc n)) l = absurd (omega arith)

doubled : (n : ℕ) → eqb (n * 2 + 0) 0 ≡ eqb n 0
doubled zero = refl
doubled (suc n) = ne_eqb (suc n * 2 + 0) 0 (λ e. omega arith) ∙ sym (ne_eqb (suc n) 0 (λ e. omega arith))

bit_read : (row bits : ℕ) → not (eqb (bit_and bits (1 * 2 ^ row)) 0) ≡ is_marked row bits
unfolding is_marked
bit_read zero bits = rw (and_mask bits 1) (digit (bits % 2) (omega arith))
bit_read (suc row) bits =
    rw (and_step bits (1 * 2 ^ suc row), shifted_half 1 row, shifted_even 1 row, min-zero, doubled) (bit_read row (bits / 2))

bit_set : (other row bits : ℕ) → is_marked other (bit_or bits (1 * 2 ^ row)) ≡ (eqb other row || is_marked other bits)
unfolding is_marked
bit_set zero zero bits =
    rw (or_mod bits 1 1, or_comm (bits % 2) 1) (eq-eqb (bit_or 1 (bits % 2)) 1 (either_one (bits % 2) (omega arith)))
bit_set zero (suc row) bits =
    rw (or_mod bits (1 * 2 ^ suc row) 1, shifted_even 1 row, or_zero_r, eqb-zero-suc)
bit_set (suc other) zero bits =
    rw (or_shr bits 1 1, or_zero_r, eqb-suc-zero)
bit_set (suc other) (suc row) bits =
    rw (or_shr bits (1 * 2 ^ suc row) 1, shifted_half 1 row, eqb-suc-suc) (bit_set other row (bits / 2))

module _ (row bits : ℕ) (l : row < 64) where
  shifted : (1 * 2 ^ row) % 2 ^ 64 ≡ 1 * 2 ^ row
  shifted = shl_exact 1 row 64 (omega arith) (omega arith)

  pub mark_read : not (eqb (bit_and bits ((1 * 2 ^ row) % 2 ^ 64)) 0) ≡ is_marked row bits
  mark_read = rw shifted (bit_read row bits)

  pub mark_set : (other : ℕ) → is_marked other (bit_or bits ((1 * 2 ^ row) % 2 ^ 64)) ≡ (eqb other row || is_marked other bits)
  mark_set other = rw shifted (bit_set other row bits)

-- no bit is set
pub unmarked : (row : ℕ) → false ≡ is_marked row 0
unfolding is_marked
unmarked zero = refl
unmarked (suc row) = unmarked row
