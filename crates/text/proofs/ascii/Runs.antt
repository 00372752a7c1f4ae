-- US-ASCII of a text that grows at its end: by an octet, whose highest bit an `|` keeps, or by a block.
-- Assumes nothing.
use mathlib.Core.Path.{◌≡◌, refl, sym, ap, ◌∙◌}
use mathlib.Core.Bool.{Bool, true, false, not, ◌&&◌, and_assoc, and-true}
use mathlib.Core.List.{List, [], ◌∷◌, ◌++◌}
use Prim.Native.Nat.{ℕ, ◌+◌, ◌-◌, ◌≤◌, ◌<◌}
use native.Mathlib.Nat.{add-mul}
use native.Mathlib.Numerals.{add-one}
use native.Mathlib.Omega.{arith}
use borrow.Author.Tests.{lt-ltb, le-ltb, ltb-true, ltb-false, not-true}
use lib.Dec.{ltb}
use lib.Bits.{bit_or, or_lt, or_add_and, and_le_l, and_le_r}
use lib.ListN.{length, get_or, take, drop, length-append, length-drop}
use lib.Seq.{take_at, drop_at, take-suc, take_all, take-add, drop-drop}
use Rattle.text.specs.Ascii.{is_ascii}
use Rattle.text.specs.Found.{AsciiBlocks, PastAscii}

ascii_append : (s t : List ℕ) → is_ascii (s ++ t) ≡ (is_ascii s && is_ascii t)
unfolding is_ascii
ascii_append [] t = refl
ascii_append (a ∷ s) t = ap (λ (b : Bool). ltb a 0x80 && b) (ascii_append s t) ∙ sym (and_assoc (ltb a 0x80) (is_ascii s) (is_ascii t))

-- ---- octet by octet

-- the highest bit of an octet is set in what is gathered
high_kept : (a b : ℕ) → ltb (bit_or a b) 0x80 ≡ (ltb a 0x80 && ltb b 0x80)
high_kept a b = by_test (ltb a 0x80) refl (ltb b 0x80) refl
  where
    by_test : (t : Bool) → ltb a 0x80 ≡ t → (u : Bool) → ltb b 0x80 ≡ u → ltb (bit_or a b) 0x80 ≡ (t && u)
    by_test true p true q = lt-ltb (bit_or a b) 0x80 (or_lt 7 a b (ltb-true a 0x80 p) (ltb-true b 0x80 q))
    by_test true p false q = le-ltb (bit_or a b) 0x80 (omega (arith, ltb-false b 0x80 q, or_add_and a b, and_le_l a b))
    by_test false p u q = le-ltb (bit_or a b) 0x80 (omega (arith, ltb-false a 0x80 p, or_add_and a b, and_le_r a b))

module _ (s : List ℕ) (gathered i : ℕ) (inv : ltb gathered 0x80 ≡ is_ascii (take i s)) where
  pub gathered_more : i < length s → ltb (bit_or gathered (get_or s i 0)) 0x80 ≡ is_ascii (take (i + 1) s)
  unfolding is_ascii
  gathered_more h =
      rw (add-one, take-suc s i 0, ascii_append, high_kept, inv) (ap (λ (b : Bool). is_ascii (take i s) && b) (sym (and-true (ltb (get_or s i 0) 0x80))))

pub gathered_none : (s : List ℕ) → ltb 0 0x80 ≡ is_ascii (take 0 s)
unfolding is_ascii
gathered_none s = refl

-- ---- block by block

part_join : (f m t : ℕ) (s : List ℕ) → f ≤ m → m ≤ t → take (t - f) (drop f s) ≡ take (m - f) (drop f s) ++ take (t - m) (drop m s)
part_join f m t s h k =
    let size : t - f ≡ (m - f) + (t - m) = omega arith in
    let start : f + (m - f) ≡ m = omega arith in
    rw (size, take-add (m - f) (t - m) (drop f s), drop-drop (m - f) f s, start)

module _ (s : List ℕ) (n from at : ℕ) (passed : AsciiBlocks s n from at) where
  -- more behind the blocks
  ascii_behind : (next : ℕ) → at ≤ next → is_ascii (take (next - at) (drop at s)) ≡ true → is_ascii (take (next - from) (drop from s)) ≡ true
  ascii_behind next h e = rw (part_join from at next s (omega arith) h, ascii_append, passed.ascii, e)

  blocks_more : (r : Bool) → r ≡ is_ascii (take (at + n - at) (drop at s)) → r ≡ true → n ≤ length s - at → AsciiBlocks s n from (at + n)
  blocks_more r e t h =
      record {
        blocks = passed.blocks + 1;
        whole = rw add-mul (omega arith);
        inside = omega arith;
        ascii = ascii_behind (at + n) (omega arith) (sym e ∙ t);
      }

  -- the next block is another, so they end here
  pub blocks_other : (r : Bool) → r ≡ is_ascii (take (at + n - at) (drop at s)) → not r ≡ true → PastAscii s n from at
  blocks_other r e t =
      let size : at + n - at ≡ n = omega arith in
      record { passed = passed; stopped = λ h. ap (λ (k : ℕ). is_ascii (take k (drop at s))) (sym size) ∙ sym e ∙ not-true r t }

  -- or less than one is left
  pub blocks_over : length s - at < n → PastAscii s n from at
  blocks_over h = record { passed = passed; stopped = λ k. let z : ⊥ = omega arith in absurd z }

  -- blocks of another size behind them
  blocks_behind : (m next : ℕ) → AsciiBlocks s m at next → AsciiBlocks s 1 from next
  blocks_behind m next more =
      record {
        blocks = next - from;
        whole = omega arith;
        inside = more.inside;
        ascii = ascii_behind next (omega arith) more.ascii;
      }

blocks_none : (s : List ℕ) (n from : ℕ) → from ≤ length s → AsciiBlocks s n from from
unfolding is_ascii
blocks_none s n from h =
    let nothing : from - from ≡ 0 = omega arith in
    record { blocks = 0; whole = omega arith; inside = h; ascii = rw nothing }

-- ---- the loop over the blocks: what is left to it is what stands behind the position

pub record Passing (s : List ℕ) (size from at : ℕ) (left : List ℕ) (step : ℕ) : Type 0 where
  pub passed : AsciiBlocks s size from at
  pub behind : left ≡ drop at s
  pub whole : step ≡ size

pub pass_begin : (s : List ℕ) (size from : ℕ) (left : List ℕ) (step : ℕ) → from ≤ length s
    → left ≡ take (length s - from) (drop from s) → step ≡ size → Passing s size from from left step
pass_begin s size from left step h e w =
    record {
      passed = blocks_none s size from h;
      behind = e ∙ take_all (length s - from) (drop from s) (simp length-drop (omega arith));
      whole = w;
    }

module _ (s : List ℕ) (size from at : ℕ) (left : List ℕ) (step : ℕ) (g : Passing s size from at left step) where
  module _ (block left' : List ℕ) (step' : ℕ) (cut : left ≡ block ++ left') (long : length block ≡ step) where
    room : size ≤ length s - at
    room = omega (arith, g.whole, long, length-append block left', ap length cut, ap length g.behind, length-drop at s)

    here : take size (drop at s) ≡ block
    here = rw (← g.behind, cut) (take_at block left' size (long ∙ g.whole))

    pub pass_more : (r : Bool) → r ≡ is_ascii block → r ≡ true → step' ≡ step → Passing s size from (at + size) left' step'
    pass_more r e t w =
        let n : at + size - at ≡ size = omega arith in
        record {
          passed = blocks_more s size from at g.passed r (rw (n, here) e) t room;
          behind = sym (drop_at block left' size (long ∙ g.whole)) ∙ ap (drop size) (sym cut ∙ g.behind) ∙ drop-drop size at s;
          whole = w ∙ g.whole;
        }

-- blocks of any two sizes, and then octet by octet
pub past_all : (s : List ℕ) (n m from long short next : ℕ)
    → PastAscii s n from long → PastAscii s m long short → PastAscii s 1 short next → PastAscii s 1 from next
past_all s n m from long short next a b c =
    record {
      passed = blocks_behind s 1 from short (blocks_behind s n from long a.passed m short b.passed) 1 next c.passed;
      stopped = c.stopped;
    }
