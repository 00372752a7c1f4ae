-- A literal that converts part by part, way by way: what the function knows where it returns is how the definition ends there. Assumes nothing.
use Rattle.std.specs.Prelude.{Ok, Err}
use mathlib.Core.Path.{◌≡◌, refl}
use mathlib.Core.List.{List, [], ◌∷◌}
use mathlib.Core.Logic.{◌⊎◌, inl, inr}
use Prim.Native.Nat.{ℕ, zero, suc, ◌+◌, ◌-◌, ◌≤◌, ◌<◌}
use native.Mathlib.Omega.{arith}
use types.Run.{miss}
use borrow.Enum.Refused.{Among, shut}
use borrow.Enum.Refused.{opened as one_of}
use denote.Enum.Declared.{tag_of}
use Rattle.rows.specs.Limits.{most_literals}
use Rattle.rows.specs.Json.{literal_at}
use Rattle.rows.specs.declared.layout.Range.{Range}
use Rattle.rows.specs.declared.json.Literal.{Literal}
use Rattle.rows.specs.declared.json.Literal.TheVariants as literal
use Rattle.rows.specs.contracts.json.Literal.{the_type as literal_type}
use Rattle.graphql.specs.Run.{Path, M, pure, halt, onward, ◌>>=◌}
use Rattle.graphql.specs.Json.{Json}
use Rattle.graphql.specs.Lookup.{rows_from, rows_in}
use Rattle.graphql.specs.Values.{opened, array_of, object_of, literal_form, parts_of, part_by_part}
use Rattle.codes.specs.declared.outcome.Outcome.TheVariants as outcome
use Rattle.input_coercion.specs.declared.check.Uncoerced.{Uncoerced}
use Rattle.input_coercion.specs.declared.check.Uncoerced.TheVariants.{Stop}
use Rattle.input_coercion.specs.Ends.{Coercion, Valued, Ends, Checks}
use Rattle.input_coercion.specs.Coerced.{Parted, of_part, part_inside, of_parts}
use Rattle.input_coercion.proofs.Ends.{value_pure, ends_made}
use Rattle.input_coercion.proofs.Going.{each, Going, going_begin, going_again, going_stopped, going_ended}

-- a container ends as its parts do, whatever is made of their values
module _ {A B : Type 0} (p : Path) (room : ℕ) (m : M A) (f : A → B) where
  opened_then : opened room (m >>= λ a. pure (f a)) ≡ (opened room m >>= λ a. pure (f a))
  unfolding opened ◌>>=◌ onward halt
  opened_then = go room
    where
      go : (n : ℕ) → opened n (m >>= λ a. pure (f a)) ≡ (opened n m >>= λ a. pure (f a))
      go zero = refl
      go (suc n) = refl

  pub opened_made : (r : Coercion) → Ends p (opened room m) r → Ends p (opened room (m >>= λ a. pure (f a))) r
  opened_made r q = rw opened_then (ends_made p (opened room m) f r q)

-- ---- a literal is a list, an object, a variable or another

abbrev plains : List ℕ
plains = 0 ∷ 1 ∷ 2 ∷ 3 ∷ 4 ∷ 5 ∷ 6 ∷ 9 ∷ 11 ∷ []

module _ (literals pool names : List ℕ) (room : ℕ) where
  plain_valued : (inside : ℕ → M Json) (l : Literal) → Among plains (tag_of literal_type l) → Valued (parts_of pool names literals room inside l)
  unfolding parts_of
  plain_valued inside literal.Null o = value_pure _
  plain_valued inside literal.False o = value_pure _
  plain_valued inside literal.True o = value_pure _
  plain_valued inside (literal.Natural n) o = value_pure _
  plain_valued inside (literal.Negative m) o = value_pure _
  plain_valued inside (literal.Float text) o = value_pure _
  plain_valued inside (literal.String text) o = value_pure _
  plain_valued inside (literal.List rows) o = absurd (miss plains 7 tt (one_of o))
  plain_valued inside (literal.Object rows) o = absurd (miss plains 8 tt (one_of o))
  plain_valued inside (literal.Enum name) o = value_pure _
  plain_valued inside (literal.Variable name) o = absurd (miss plains 10 tt (one_of o))
  plain_valued inside literal.Unknown o = value_pure _

  by_literal : (row : ℕ) → part_by_part pool names literals room row ≡ parts_of pool names literals room (part_inside literals room pool names) (literal_at literals row)
  unfolding part_by_part part_inside
  by_literal row = go room
    where
      go : (n : ℕ) → part_by_part pool names literals n row ≡ parts_of pool names literals n (part_inside literals n pool names) (literal_at literals row)
      go zero = refl
      go (suc n) = refl

module _ (literals : List ℕ) (room row : ℕ) {l : Literal} (e : l ≡ literal_at literals row) where
  pub part_opened : {rows : Range} {r : Coercion} → (l ≡ literal.List rows) ⊎ (l ≡ literal.Object rows)
      → Checks (of_parts literals room rows) r → Checks (of_part literals room row) r
  unfolding of_part of_parts parts_of array_of object_of
  part_opened {r = r'} (inl h) q = record {
    ends = λ pool names p. rw (by_literal literals pool names room row, ← e, h) (opened_made p room _ _ r' (q.ends pool names p));
  }
  part_opened {r = r'} (inr h) q = record {
    ends = λ pool names p. rw (by_literal literals pool names room row, ← e, h) (opened_made p room _ _ r' (q.ends pool names p));
  }

  pub part_variable : {name : ℕ} → l ≡ literal.Variable name → Checks (of_part literals room row) (Err (Stop outcome.VariableInLiteral))
  unfolding of_part parts_of
  part_variable h = record { ends = λ pool names p c. rw (by_literal literals pool names room row, ← e, h) }

  pub part_plain : Among plains (tag_of literal_type l) → Checks (of_part literals room row) (Ok tt)
  unfolding of_part
  part_plain o = record {
    ends = λ pool names p. rw (by_literal literals pool names room row, ← e) (plain_valued literals pool names room (part_inside literals room pool names) l o);
  }

  pub parts_within : {rows : Range} → Parted literals → (l ≡ literal.List rows) ⊎ (l ≡ literal.Object rows)
      → rows.first + rows.count ≤ most_literals
  unfolding literal_form
  parts_within {rows} w (inl h) = w.lists row rows (rw (← e, h))
  parts_within {rows} w (inr h) = w.objects row rows (rw (← e, h))

-- ---- the parts of a container

module _ (literals : List ℕ) (room : ℕ) (rows : Range) where
  pub parts_full : room ≡ 0 → Checks (of_parts literals room rows) (Err (Stop outcome.TooFar))
  unfolding of_parts opened
  parts_full z = rw z (record { ends = λ pool names p c. refl })

  parts_opened : (room ≡ 0 → ⊥) → of_parts literals room rows ≡ each (of_part literals (room - 1)) (rows_from rows.first rows.count)
  unfolding of_parts opened part_inside each of_part rows_in
  parts_opened z = go room z
    where
      go : (n : ℕ) → (n ≡ 0 → ⊥) → of_parts literals n rows ≡ each (of_part literals (n - 1)) (rows_from rows.first rows.count)
      go zero h = absurd (h refl)
      go (suc n) h = let e : suc n - 1 ≡ n = omega arith in rw e

  pub parts_begin : rows.first + rows.count ≤ most_literals → Going (of_part literals (room - 1)) rows.first rows.count 0
  parts_begin w = going_begin (of_part literals (room - 1)) rows.first rows.count (omega arith)

  module _ (z : room ≡ 0 → ⊥) {i : ℕ} (g : Going (of_part literals (room - 1)) rows.first rows.count i) where
    pub parts_stopped : {e : Uncoerced} → i < rows.count → Checks (of_part literals (room - 1) (rows.first + i)) (Err e)
        → Checks (of_parts literals room rows) (Err e)
    parts_stopped l q = rw (parts_opened z) (going_stopped (of_part literals (room - 1)) rows.first rows.count g l q)

    pub parts_ended : rows.count ≤ i → Checks (of_parts literals room rows) (Ok tt)
    parts_ended l = rw (parts_opened z) (going_ended (of_part literals (room - 1)) rows.first rows.count g l)

pub ruleset parting = (part_opened, part_variable, part_plain, parts_within, parts_full, parts_begin, going_again, parts_stopped, parts_ended, shut)
