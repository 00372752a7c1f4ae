-- The items of a list and the fields of an input object: an opened container ends as its parts do, one after another. Assumes nothing.
use mathlib.Core.Path.{◌≡◌, refl}
use mathlib.Core.Bool.{Bool, true, false}
use mathlib.Core.List.{List, map}
use Rattle.std.specs.Prelude.{Option, Some, None, Ok, Err}
use Prim.Native.Nat.{ℕ, zero, suc, ◌+◌, ◌-◌, ◌≤◌, ◌<◌}
use native.Mathlib.Omega.{arith}
use Rattle.rows.specs.Limits.{most_fields}
use Rattle.rows.specs.Names.{name_text}
use Rattle.rows.specs.Schema.{field_at}
use Rattle.rows.specs.declared.layout.Range.{Range}
use Rattle.rows.specs.declared.schema.Field.{Field}
use Rattle.codes.specs.declared.errors.FieldError.TheVariants as error
use Rattle.graphql.specs.Run.{pure, when, ◌>>=◌}
use Rattle.codes.specs.Errors.{place_of}
use Rattle.graphql.specs.Json.{array, object, items, members}
use Rattle.graphql.specs.Lookup.{rows_from, rows_in, non_null}
use Rattle.graphql.specs.Values.{opened, part_by_part}
use Rattle.graphql.specs.Coerce.{coerce_items, input_field, input_fields}
use Rattle.codes.specs.declared.outcome.Outcome.TheVariants as outcome
use Rattle.input_coercion.specs.declared.check.Uncoerced.{Uncoerced}
use Rattle.input_coercion.specs.declared.check.Uncoerced.TheVariants.{Stop}
use Rattle.input_coercion.specs.Ends.{Coercion, literal_fails, Checks}
use Rattle.input_coercion.specs.Coerced.{given_for, inside, of_part, of_value, of_items, of_field, of_fields}
use Rattle.input_coercion.proofs.Ends.{value_pure, ends_made, fails}
use Rattle.input_coercion.proofs.Going.{each, Going, going_begin, going_stopped, going_ended}

module _ (refs types fields nodes literals variables : List ℕ) where
  -- ---- the items of a list

  module _ (room inner : ℕ) where
    items_opened : (rows : List ℕ) → (room ≡ 0 → ⊥)
        → of_items refs types fields nodes literals variables room inner rows
        ≡ (λ pool names p. each (of_value refs types fields nodes literals variables (room - 1) inner) rows pool names p >>= λ js. pure (array (items js)))
    unfolding of_items coerce_items opened inside each of_value
    items_opened rows z = go room z
      where
        go : (n : ℕ) → (n ≡ 0 → ⊥) → of_items refs types fields nodes literals variables n inner rows
            ≡ (λ pool names p. each (of_value refs types fields nodes literals variables (n - 1) inner) rows pool names p >>= λ js. pure (array (items js)))
        go zero h = absurd (h refl)
        go (suc n) h = let e : suc n - 1 ≡ n = omega arith in rw e

    items_made : (rows : List ℕ) {r : Coercion} → (room ≡ 0 → ⊥) → Checks (each (of_value refs types fields nodes literals variables (room - 1) inner) rows) r
        → Checks (of_items refs types fields nodes literals variables room inner rows) r
    items_made rows {r} z q = rw (items_opened rows z) (record {
      ends = λ pool names p. ends_made p (each (of_value refs types fields nodes literals variables (room - 1) inner) rows pool names p) (λ js. array (items js)) r (q.ends pool names p);
    })

    pub items_full : (rows : List ℕ) → room ≡ 0 → Checks (of_items refs types fields nodes literals variables room inner rows) (Err (Stop outcome.TooFar))
    unfolding of_items coerce_items opened
    items_full rows z = rw z (record { ends = λ pool names p c. refl })

    module _ (rows : Range) (z : room ≡ 0 → ⊥) {i : ℕ}
        (g : Going (of_value refs types fields nodes literals variables (room - 1) inner) rows.first rows.count i) where
      pub items_stopped : {e : Uncoerced} → i < rows.count
          → Checks (of_value refs types fields nodes literals variables (room - 1) inner (rows.first + i)) (Err e)
          → Checks (of_items refs types fields nodes literals variables room inner (rows_in rows)) (Err e)
      unfolding rows_in
      items_stopped l q = items_made (rows_from rows.first rows.count) z (going_stopped _ rows.first rows.count g l q)

      pub items_ended : rows.count ≤ i → Checks (of_items refs types fields nodes literals variables room inner (rows_in rows)) (Ok tt)
      unfolding rows_in
      items_ended l = items_made (rows_from rows.first rows.count) z (going_ended _ rows.first rows.count g l)

  -- ---- a field

  module _ (room row : ℕ) (given : List ℕ) (field : ℕ) {found : Option ℕ} {def : Field} (e : found ≡ (given_for fields literals given field))
      (d : def ≡ field_at fields field) where
    pub field_given : {literal : ℕ} {r : Coercion} → found ≡ Some literal → Checks (of_value refs types fields nodes literals variables room def.ty literal) r
        → Checks (of_field refs types fields nodes literals variables room row given field) r
    unfolding of_field input_field inside of_value
    field_given {r = r'} h q = record { ends = λ pool names p. rw (← e, h, ← d) (ends_made p _ Some r' (q.ends pool names p)) }

    module _ (h : found ≡ None) where
      pub field_default_lem : {default : ℕ} {r : Coercion} → def.default ≡ Some default → Checks (of_part literals room default) r
          → Checks (of_field refs types fields nodes literals variables room row given field) r
      unfolding of_field input_field of_part
      field_default_lem {default = default'} {r = r'} k q =
          let s : suc room - 1 ≡ room = omega arith in
          record { ends = λ pool names p. rw (← e, h, ← d, k, s) (ends_made p (part_by_part pool names literals room default') Some r' (q.ends pool names p)) }

      module _ {b : Bool} (k : def.default ≡ None) (g : b ≡ non_null refs def.ty) where
        pub field_missing : {r : Coercion} → b ≡ true → r ≡ literal_fails literals error.MissingInputField row
            → Checks (of_field refs types fields nodes literals variables room row given field) r
        unfolding of_field input_field when place_of
        field_missing t f = record {
          ends = λ pool names p. rw (← e, h, ← d, k, ← d, ← g, t, f) (fails literals error.MissingInputField row p refl);
        }

        pub field_absent : b ≡ false → Checks (of_field refs types fields nodes literals variables room row given field) (Ok tt)
        unfolding of_field input_field when
        field_absent t = record { ends = λ pool names p. rw (← e, h, ← d, k, ← d, ← g, t) (value_pure None) }

  -- ---- the fields of an input object

  module _ (room row : ℕ) (given : List ℕ) where
    abbrev keys_of : (pool names declared : List ℕ) → List (List ℕ)
    keys_of pool names declared = map (λ field. name_text pool names (field_at fields field).name) declared

    fields_opened : (declared : List ℕ) → (room ≡ 0 → ⊥)
        → of_fields refs types fields nodes literals variables room row given declared
        ≡ (λ pool names p. each (of_field refs types fields nodes literals variables (room - 1) row given) declared pool names p >>= λ js. pure (object (members (keys_of pool names declared) js)))
    unfolding of_fields input_fields opened each of_field given_for
    fields_opened declared z = go room z
      where
        go : (n : ℕ) → (n ≡ 0 → ⊥) → of_fields refs types fields nodes literals variables n row given declared
            ≡ (λ pool names p. each (of_field refs types fields nodes literals variables (n - 1) row given) declared pool names p >>= λ js. pure (object (members (keys_of pool names declared) js)))
        go zero h = absurd (h refl)
        go (suc n) h = let e : suc n - 1 ≡ n = omega arith in rw e

    fields_made : (declared : List ℕ) {r : Coercion} → (room ≡ 0 → ⊥)
        → Checks (each (of_field refs types fields nodes literals variables (room - 1) row given) declared) r
        → Checks (of_fields refs types fields nodes literals variables room row given declared) r
    fields_made declared {r} z q = rw (fields_opened declared z) (record {
      ends = λ pool names p. ends_made p (each (of_field refs types fields nodes literals variables (room - 1) row given) declared pool names p) (λ js. object (members (keys_of pool names declared) js)) r (q.ends pool names p);
    })

    pub fields_full : (declared : List ℕ) → room ≡ 0 → Checks (of_fields refs types fields nodes literals variables room row given declared) (Err (Stop outcome.TooFar))
    unfolding of_fields input_fields opened
    fields_full declared z = rw z (record { ends = λ pool names p c. refl })

    pub fields_begin : (declared : Range) → declared.first + declared.count ≤ most_fields
        → Going (of_field refs types fields nodes literals variables (room - 1) row given) declared.first declared.count 0
    fields_begin declared w = going_begin _ declared.first declared.count (omega arith)

    module _ (declared : Range) (z : room ≡ 0 → ⊥) {i : ℕ}
        (g : Going (of_field refs types fields nodes literals variables (room - 1) row given) declared.first declared.count i) where
      pub fields_stopped : {e : Uncoerced} → i < declared.count
          → Checks (of_field refs types fields nodes literals variables (room - 1) row given (declared.first + i)) (Err e)
          → Checks (of_fields refs types fields nodes literals variables room row given (rows_in declared)) (Err e)
      unfolding rows_in
      fields_stopped l q = fields_made (rows_from declared.first declared.count) z (going_stopped _ declared.first declared.count g l q)

      pub fields_ended : declared.count ≤ i → Checks (of_fields refs types fields nodes literals variables room row given (rows_in declared)) (Ok tt)
      unfolding rows_in
      fields_ended l = fields_made (rows_from declared.first declared.count) z (going_ended _ declared.first declared.count g l)
