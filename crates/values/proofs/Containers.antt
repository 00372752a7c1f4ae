-- A container, way by way: what a function knows where it returns is what the definition says there. Whatever the parts are: `key` gives their keys
-- and `value` their values. Assumes nothing.
use mathlib.Core.Path.{◌≡◌, refl}
use mathlib.Core.Bool.{Bool}
use mathlib.Core.List.{List}
use Rattle.std.specs.Prelude.{Ok, Err}
use Prim.Native.Nat.{ℕ, zero, suc, ◌+◌, ◌-◌, ◌≤◌, ◌<◌}
use native.Mathlib.Omega.{arith}
use Rattle.writing.specs.Wrote.{Writes, Closes}
use Rattle.codes.specs.declared.outcome.Outcome.{Outcome}
use Rattle.codes.specs.declared.outcome.Outcome.TheVariants.{TooFar}
use Rattle.graphql.specs.Run.{M}
use Rattle.graphql.specs.Json.{Json}
use Rattle.graphql.specs.Lookup.{rows_in}
use Rattle.values.specs.Put.{Put, label, left, right, Puts, container_of, contained}
use Rattle.values.specs.declared.node.Parts.{Parts}
use Rattle.values.proofs.Ends.{ends_at, ends_stopped, came_at, stops_too}
use Rattle.values.proofs.Labels.{part_labelled}
use Rattle.values.proofs.Parts.{container_full}
use Rattle.values.proofs.Going.{Going, going_begin, part_written, part_stops, part_long, whole, whole_done, whole_written}

module _ (key : ℕ → List ℕ) (inside : ℕ → M Json) (keyed : Bool) (first count : ℕ) (text₀ : List ℕ) (at : ℕ) where
  pub going_again : {text text1 text2 : List ℕ} {next value i : ℕ} {r : Put} {end : ℕ} → Going key inside keyed first count text₀ at text next i
      → i < count → Writes text text1 next value (label keyed (key (first + i))) → Puts (inside (first + i)) text1 value r text2 → r ≡ Ok end
      → Going key inside keyed first count text₀ at text2 end (i + 1)
  going_again g l w q e = let v = came_at q e in part_written key inside keyed first count text₀ at g l w v.0 v.1 v.2

module _ (key : ℕ → List ℕ) (value : (room row : ℕ) → M Json) (room : ℕ) (parts : Parts) where
  pub container_none : {text : List ℕ} {at : ℕ} → room ≡ 0 → Puts (contained key value room parts) text at (Err TooFar) text
  unfolding contained
  container_none z = rw z (ends_stopped (λ c. container_full key _ parts.keyed (rows_in parts.rows) c) refl)

  -- in the parts one container less may be open
  opens : (room ≡ 0 → ⊥) → contained key value room parts ≡ container_of key (suc (room - 1)) (value (room - 1)) parts.keyed (rows_in parts.rows)
  unfolding contained
  opens z = go room z
    where
      go : (n : ℕ) → (n ≡ 0 → ⊥) → contained key value n parts ≡ container_of key (suc (n - 1)) (value (n - 1)) parts.keyed (rows_in parts.rows)
      go zero h = absurd (h refl)
      go (suc n) h = let e : suc n - 1 ≡ n = omega arith in rw e

  module _ (z : room ≡ 0 → ⊥) {text₀ text text2 : List ℕ} {at next i : ℕ}
      (g : Going key (value (room - 1)) parts.keyed parts.rows.first parts.rows.count text₀ at text next i) where
    pub container_stopped : {text1 : List ℕ} {from : ℕ} {r : Put} {o : Outcome} → i < parts.rows.count
        → Writes text text1 next from (label parts.keyed (key (parts.rows.first + i)))
        → Puts (value (room - 1) (parts.rows.first + i)) text1 from r text2 → r ≡ Err o → Puts (contained key value room parts) text₀ at (Err o) text2
    unfolding rows_in
    container_stopped l w q e =
        rw (opens z)
        (stops_too q e (part_long key (value (room - 1)) parts.keyed _ _ text₀ at g l w)
        (λ s h. part_stops key (value (room - 1)) parts.keyed _ _ text₀ at g l w (room - 1) h))

    pub container_ended : {end : ℕ} → parts.rows.count ≤ i → Closes (left parts.keyed) (right parts.keyed) text at next text2 end
        → Puts (contained key value room parts) text₀ at (Ok end) text2
    unfolding rows_in
    container_ended l q =
        rw (opens z)
        (ends_at (whole key (value (room - 1)) parts.keyed _ _ text₀ at g l)
        (whole_done key (value (room - 1)) parts.keyed _ _ text₀ at g l (room - 1))
        (whole_written key (value (room - 1)) parts.keyed _ _ text₀ at g l q))

pub ruleset containing = (part_labelled, container_none, going_begin, going_again, container_stopped, container_ended)
