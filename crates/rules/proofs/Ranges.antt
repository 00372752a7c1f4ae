-- What the library's `all` answers of a range of rows whose test is a call that says what p says. Assumes nothing.
use mathlib.Core.Path.{◌≡◌, refl, sym, ap, ◌∙◌}
use mathlib.Core.Bool.{Bool, true, false, ◌&&◌, and-true}
use Prim.Native.Nat.{ℕ, zero, suc, ◌+◌}
use native.Mathlib.Omega.{arith}
use denote.Param.Members.{Mut}
use Rattle.std.specs.Fn.{Called}
use Rattle.std.specs.Iterator.{ChecksAll}
use Rattle.std.specs.List.{list_all, range_with_len}
use Rattle.std.proofs.iter.Yields.{nat_range_steps}
use Rattle.std.proofs.lemmas.Iterator.{YieldsList-from_range}
use Rattle.std.proofs.lemmas.Iterator.Search.{all_from_yields_List}
use Rattle.std.specs.declared.ops.Range.{Range}
use Rattle.rows.specs.Rows.{all}
use Rattle.rows.proofs.Every.{all_same}

and_assoc : (a b c : Bool) → ((a && b) && c) ≡ (a && (b && c))
and_assoc true b c = refl
and_assoc false b c = refl

-- the first of so many rows, and the others
first_of_all : (p : ℕ → Bool) (n : ℕ) → (p 0 && all (λ j. p (suc j)) n) ≡ all p (suc n)
unfolding all
first_of_all p zero = and-true (p 0)
first_of_all p (suc n) = sym (and_assoc (p 0) (all (λ j. p (suc j)) n) (p (suc n))) ∙ rw (first_of_all p n)

from_on : (p : ℕ → Bool) (a n : ℕ) → list_all p (range_with_len a n) ≡ all (λ j. p (a + j)) n
unfolding all
from_on p a zero = refl
from_on p a (suc n) =
    let here : a + 0 ≡ a = omega arith in
    let others : all (λ j. p (a + 1 + j)) n ≡ all (λ j. p (a + suc j)) n = all_same _ _ n (λ j l. let e : a + 1 + j ≡ a + suc j = omega arith in ap p e) in
    rw (from_on p (a + 1) n, others) (rw here at (first_of_all (λ j. p (a + j)) n))

pub all_in_range : {F : Type 0} {g : Mut F (ℕ × Unit {0}) Bool} (p : ℕ → Bool) (n : ℕ) {u : Range ℕ} {f : F} {r : Bool}
    → ChecksAll nat_range_steps g (record { start = 0; end = n }) f r u
    → ((row : ℕ) (b : Bool) (h : F) → Called g f (row, tt) b h → (h ≡ f) × (b ≡ p row)) → r ≡ all p n
all_in_range p n {u} {f} {r} ran agrees =
    all_from_yields_List p u f r ran (YieldsList-from_range 0 n n refl (omega arith)) agrees
    ∙ from_on p 0 n
    ∙ all_same _ _ n (λ j l. let e : 0 + j ≡ j = omega arith in ap p e)
