-- What each way through the functions of `names` knows, and what follows of the octet or of the text.
-- Assumes nothing.
use mathlib.Core.Path.{◌≡◌, refl, sym, ap, ◌∙◌}
use mathlib.Core.Bool.{Bool, true, false, ◌&&◌, ◌||◌, or-false}
use mathlib.Core.List.{List, [], ◌∷◌}
use Prim.Native.Nat.{ℕ, ◌-◌, ◌≤◌, ◌<◌}
use native.Mathlib.Omega.{arith}
use borrow.Author.Tests.{le-leb, eq-eqb, ne_eqb}
use lib.Dec.{leb, eqb}
use lib.ListN.{length, get_or, take, drop}
use lib.Seq.{take_all}
use Rattle.std.specs.List.{list_all}
use Rattle.text.specs.Names.{Letter, Digit, NameStart, NameContinue, all_name_continue, is_name}
use Rattle.text.proofs.Reading.{below_range, above_range}

-- ---- the kinds of octets

-- whatever comes before it
or_true : (a : Bool) → (a || true) ≡ true
or_true true = refl
or_true false = refl

-- the underscore begins a name
pub start_underscore : (c : ℕ) → c ≡ 0x5F → true ≡ NameStart c
unfolding NameStart
start_underscore c e = sym (rw (eq-eqb c 0x5F e) (or_true (Letter c)))

-- from `a` on an octet does up to `z`
pub start_small : (c : ℕ) → (c ≡ 0x5F → ⊥) → 0x61 ≤ c → leb c 0x7A ≡ NameStart c
unfolding NameStart
start_small c n h = simp (above_range 0x41 0x5A c (omega arith), le-leb 0x61 c h, ne_eqb c 0x5F n, or-false)

-- below `a` and from `A` on one does up to `Z`
pub start_capital : (c : ℕ) → (c ≡ 0x5F → ⊥) → c < 0x61 → 0x41 ≤ c → leb c 0x5A ≡ NameStart c
unfolding NameStart
start_capital c n h k = simp (below_range 0x61 0x7A c h, le-leb 0x41 c k, ne_eqb c 0x5F n, or-false)

-- and below `A` none does
pub start_none : (c : ℕ) → (c ≡ 0x5F → ⊥) → c < 0x61 → c < 0x41 → false ≡ NameStart c
unfolding NameStart
start_none c n h k = simp (below_range 0x61 0x7A c h, below_range 0x41 0x5A c k, ne_eqb c 0x5F n)

-- of three tests, the first and the last say that one holds, or that only the second may
or_more : (x d u : Bool) → (x || u) ≡ true → true ≡ (x || (d || u))
or_more true d u e = refl
or_more false true u e = refl
or_more false false u e = sym e

or_only : (x d u : Bool) → (x || u) ≡ false → d ≡ (x || (d || u))
or_only true d u e = cc
or_only false true u e = refl
or_only false false u e = sym e

-- what begins a name continues one
pub continue_start : (c : ℕ) (r : Bool) → r ≡ NameStart c → r ≡ true → true ≡ NameContinue c
unfolding NameStart NameContinue
continue_start c r e t = or_more (Letter c) (Digit c) (eqb c 0x5F) (sym e ∙ t)

-- of what does not, from `0` on an octet does up to `9`
pub continue_digit : (c : ℕ) (r : Bool) → r ≡ NameStart c → r ≡ false → 0x30 ≤ c → leb c 0x39 ≡ NameContinue c
unfolding NameStart NameContinue
continue_digit c r e t h =
    let d : leb c 0x39 ≡ Digit c = simp (le-leb 0x30 c h) in
    d ∙ or_only (Letter c) (Digit c) (eqb c 0x5F) (sym e ∙ t)

-- and below `0` none does
pub continue_none : (c : ℕ) (r : Bool) → r ≡ NameStart c → r ≡ false → c < 0x30 → false ≡ NameContinue c
unfolding NameStart NameContinue
continue_none c r e t h = sym (below_range 0x30 0x39 c h) ∙ or_only (Letter c) (Digit c) (eqb c 0x5F) (sym e ∙ t)

-- ---- the scan of a name

pub name_empty : (s : List ℕ) → length s < 1 → false ≡ is_name s
unfolding is_name
name_empty [] e = refl
name_empty (c ∷ s) e = absurd (omega arith)

all_continue : (s : List ℕ) → list_all NameContinue s ≡ all_name_continue s
unfolding all_name_continue
all_continue [] = refl
all_continue (c ∷ s) = ap (λ b. NameContinue c && b) (all_continue s)

pub name_refused : (s : List ℕ) (r : Bool) → 1 ≤ length s → r ≡ NameStart (get_or s 0 0) → r ≡ false → r ≡ is_name s
unfolding is_name
name_refused [] r there e t = absurd (omega arith)
name_refused (c ∷ s) r there e t = t ∙ rw (← e, t)

pub name_begun : (s : List ℕ) (r : Bool) → 1 ≤ length s → r ≡ NameStart (get_or s 0 0)
    → (others : Bool) → r ≡ true → others ≡ list_all NameContinue (take (length s - 1) (drop 1 s)) → others ≡ is_name s
unfolding is_name
name_begun [] r there e others t h = absurd (omega arith)
name_begun (c ∷ s) r there e others t h = h ∙ ap (list_all NameContinue) (take_all (length (c ∷ s) - 1) s (omega arith)) ∙ all_continue s ∙ rw (← e, t)
