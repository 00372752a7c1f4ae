-- The library's search through a range finds the first row at which a rule does not hold. Assumes nothing.
use mathlib.Core.Path.{◌≡◌, refl, sym}
use mathlib.Core.Bool.{Bool, true, false, not}
use Rattle.std.specs.Prelude.{Option, Some, None, MatchOption}
use Prim.Native.Nat.{ℕ, ◌≤◌, ◌<◌}
use native.Mathlib.Omega.{arith}
use denote.Param.Members.{Mut}
use denote.Ref.{Bor}
use Rattle.std.specs.Fn.{CalledAt}
use Rattle.std.specs.Iterator.{FindsItem}
use Rattle.std.proofs.iter.Yields.{nat_range_steps}
use Rattle.std.proofs.lemmas.Iterator.{first_from_Range}
use Rattle.std.specs.declared.ops.Range.{Range}
use Rattle.rows.proofs.Every.{falsified, verified, all_each}
use Rattle.tables.specs.Tables.{Tables}
use Rattle.tables.specs.Rules.{rows_for, holds_at, obeyed}
use Rattle.tables.specs.declared.rule.Rule.{Rule}
use Rattle.rulebook.specs.Broken.{FirstBroken}

pub first_found : (rule : Rule) (T : Tables) {F : Type 0} {g : Mut F (Bor ℕ × Unit {0}) Bool} {n : ℕ} (u : Range ℕ) (f : F) (r : Option ℕ)
    → n ≡ rows_for rule T → FindsItem nat_range_steps g (record { start = 0; end = n }) f r u
    → ((row : ℕ) (b : Bool) (h : F) → CalledAt g f row b h → (h ≡ f) × (b ≡ not (holds_at rule T row))) → FirstBroken rule T r
unfolding obeyed
first_found rule T {n = n'} u f r' e ran agrees =
    go r' (first_from_Range _ u f r' (λ row. holds_at rule T row ≡ false) (λ row. holds_at rule T row ≡ true) ran
    (λ row h k. falsified _ _ refl (sym (agrees row true h k).1))
    (λ row h k. ((agrees row false h k).0, verified _ _ refl (sym (agrees row false h k).1))))
  where
    go : (r : Option ℕ)
        → MatchOption r ((k : ℕ) → 0 ≤ k → k < n' → holds_at rule T k ≡ true)
        (λ i. (0 ≤ i) × (i < n') × (holds_at rule T i ≡ false) × ((k : ℕ) → 0 ≤ k → k < i → holds_at rule T k ≡ true))
        → FirstBroken rule T r
    go None h = rw (← e) (all_each (holds_at rule T) n' (λ k l. h k (omega arith) l))
    go (Some row) h = record {
      there = rw (← e) h.1;
      broken = h.2;
      before = all_each (holds_at rule T) row (λ k l. h.3 k (omega arith) l);
    }
