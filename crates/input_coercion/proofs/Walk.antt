-- A literal at a type, way by way: what a function knows where it returns is how the definition ends there. Assumes nothing.
use mathlib.Core.Path.{◌≡◌, refl}
use mathlib.Core.Bool.{Bool, true, false}
use mathlib.Core.List.{List, [], ◌∷◌}
use Rattle.std.specs.Prelude.{Option, Some, None, Ok}
use Prim.Native.Nat.{ℕ, zero, suc, ◌+◌, ◌≤◌}
use native.Mathlib.Omega.{arith}
use types.Run.{miss}
use borrow.Enum.Refused.{Among, opened, shut}
use denote.Enum.Declared.{tag_of}
use Rattle.rows.specs.Limits.{most_literals, most_fields}
use Rattle.rows.specs.Schema.{type_ref_at, type_at}
use Rattle.rows.specs.Json.{literal_at}
use Rattle.rows.specs.declared.layout.Range.{Range}
use Rattle.rows.specs.declared.schema.TypeRef.{TypeRef}
use Rattle.rows.specs.declared.schema.TypeRef.TheVariants as ref
use Rattle.rows.specs.declared.schema.TypeKind.{TypeKind}
use Rattle.rows.specs.declared.schema.TypeKind.TheVariants as kind
use Rattle.rows.specs.declared.schema.TypeDef.{TypeDef}
use Rattle.rows.specs.contracts.schema.TypeKind.{the_type as kind_type}
use Rattle.codes.specs.declared.errors.FieldError.TheVariants as error
use Rattle.graphql.specs.Run.{Path, when}
use Rattle.codes.specs.Errors.{place_of}
use Rattle.graphql.specs.Json.{null}
use Rattle.graphql.specs.Lookup.{rows_in, non_null, type_named}
use Rattle.graphql.specs.Values.{literal_form}
use Rattle.graphql.specs.Coerce.{is_input_object, unknown_key, known_object, input_object, coerce_named, coerce_shape, coerce_literal, coerce_argument_value}
use Rattle.lookup.specs.Found.{is_found}
use Rattle.input_coercion.specs.Ends.{Coercion, literal_fails, Ends, Checks}
use Rattle.input_coercion.specs.Coerced.{FormAt, Listable, ItemsAt, Coercible, inside, of_part, of_value, of_variable, of_items, of_fields, of_object, of_named, of_shape, ChecksInner}
use Rattle.input_coercion.specs.declared.check.Shape.{Shape}
use Rattle.input_coercion.specs.declared.check.Shape.TheVariants as shape
use Rattle.input_coercion.specs.declared.check.Form.{Form}
use Rattle.input_coercion.specs.declared.check.Form.TheVariants as form
use Rattle.input_coercion.specs.contracts.check.Shape.{the_type as shape_type}
use Rattle.input_coercion.proofs.Ends.{value_pure, fails}
use Rattle.input_coercion.proofs.Going.{going_begin, going_again}
use Rattle.input_coercion.proofs.Fields.{items_full, items_stopped, items_ended, field_given, field_default_lem, field_missing, field_absent, fields_full, fields_begin, fields_stopped, fields_ended}

-- ---- what a shape shows

module _ (literals : List ℕ) (row : ℕ) where
  pub form_shaped : {f : Form} {s : Shape} → FormAt literals row f → f ≡ form.Shaped s → FormAt literals row (form.Shaped s)
  form_shaped e h = rw h at e

  module _ {types nodes variables : List ℕ} (s : Shape) (w : Coercible types nodes literals variables) (e : FormAt literals row (form.Shaped s)) where
    pub listable : Listable s
    listable = record { few = λ rows h. w.parted.lists row rows (rw h at e.is) }

    pub keyed_within : {rows : Range} → s ≡ shape.Keyed rows → rows.first + rows.count ≤ most_literals
    keyed_within {rows} h = w.parted.objects row rows (rw h at e.is)

module _ {types nodes literals variables : List ℕ} (w : Coercible types nodes literals variables) (type : ℕ) where
  pub few_fields : (type_at types type).fields.first + (type_at types type).fields.count ≤ most_fields
  few_fields = w.few type

  pub few_declared : {def : TypeDef} → def ≡ type_at types type → def.fields.first + def.fields.count ≤ most_fields
  few_declared d = rw d (w.few type)

-- ---- whether a key is unknown

all_known : (o : Option ℕ) → false ≡ is_found o → o ≡ None
all_known None h = refl
all_known (Some key) h = absurd (let z : ◌≡◌ {A = ℕ} 0 1 = cc in omega arith)

one_unknown : (o : Option ℕ) → true ≡ is_found o → (key : ℕ) × (o ≡ Some key)
one_unknown None h = absurd (let z : ◌≡◌ {A = ℕ} 0 1 = cc in omega arith)
one_unknown (Some key) h = (key, refl)

-- ---- kinds of types

abbrev pub other_kinds : List ℕ
other_kinds = 0 ∷ 1 ∷ 2 ∷ 3 ∷ 4 ∷ 6 ∷ []

pub other_kind : (k : TypeKind) → Among other_kinds (tag_of kind_type k) → is_input_object k ≡ false
unfolding is_input_object
other_kind kind.Scalar o = refl
other_kind kind.Enum o = refl
other_kind kind.Object o = refl
other_kind kind.Interface o = refl
other_kind kind.Union o = refl
other_kind kind.InputObject o = absurd (miss other_kinds 5 tt (opened o))
other_kind kind.Unknown o = refl

abbrev unkeyed : List ℕ
unkeyed = 0 ∷ 1 ∷ []

module _ (refs types fields nodes literals variables : List ℕ) (room : ℕ) where
  -- ---- an input object

  module _ (type row : ℕ) (s : Shape) where
    pub object_other : {r : Coercion} → Among unkeyed (tag_of shape_type s) → r ≡ literal_fails literals error.CannotCoerce row
        → Checks (of_object refs types fields nodes literals variables room type row s) r
    unfolding of_object input_object place_of
    object_other o f = record { ends = λ pool names p. rw f (go pool names p s o) }
      where
        go : (pool names : List ℕ) (p : Path) (s : Shape) → Among unkeyed (tag_of shape_type s)
            → Ends p (of_object refs types fields nodes literals variables room type row s pool names p) (literal_fails literals error.CannotCoerce row)
        go pool names p shape.Single o = fails literals error.CannotCoerce row p refl
        go pool names p (shape.Listed rows) o = fails literals error.CannotCoerce row p refl
        go pool names p (shape.Keyed rows) o = absurd (miss unkeyed 2 tt (opened o))

    module _ {given : Range} {b : Bool} (h : s ≡ shape.Keyed given) (e : b ≡ is_found (unknown_key types fields literals type (rows_in given))) where
      pub object_unknown : {r : Coercion} → b ≡ true → r ≡ literal_fails literals error.UnknownKey row
          → Checks (of_object refs types fields nodes literals variables room type row s) r
      unfolding of_object input_object known_object place_of
      object_unknown t f =
          let k = one_unknown (unknown_key types fields literals type (rows_in given)) (rw t at e) in
          record { ends = λ pool names p. rw (h, k.1, f) (fails literals error.UnknownKey row p refl) }

      pub object_known : {def : TypeDef} {r : Coercion} → b ≡ false → def ≡ type_at types type
          → Checks (of_fields refs types fields nodes literals variables room row (rows_in given) (rows_in def.fields)) r
          → Checks (of_object refs types fields nodes literals variables room type row s) r
      unfolding of_object input_object known_object of_fields
      object_known t d q =
          let k : unknown_key types fields literals type (rows_in given) ≡ None = all_known (unknown_key types fields literals type (rows_in given)) (rw t at e) in
          record { ends = λ pool names p. rw (h, k, ← d) (q.ends pool names p) }

  -- ---- a named type

  module _ (row : ℕ) (s : Shape) (name : ℕ) {found : Option ℕ} (e : found ≡ (type_named types name)) {r : Coercion} where
    pub named_undefined : found ≡ None → r ≡ literal_fails literals error.UndefinedInputType row
        → Checks (of_named refs types fields nodes literals variables room row s name) r
    unfolding of_named coerce_named place_of
    named_undefined h f = record { ends = λ pool names p. rw (← e, h, f) (fails literals error.UndefinedInputType row p refl) }

    module _ {type : ℕ} {def : TypeDef} (h : found ≡ Some type) (d : def ≡ type_at types type) where
      pub named_other : Among other_kinds (tag_of kind_type def.kind) → Checks (of_part literals room row) r
          → Checks (of_named refs types fields nodes literals variables room row s name) r
      unfolding of_named coerce_named when of_part
      named_other o q = record { ends = λ pool names p. rw (← e, h, ← d, other_kind def.kind o) (q.ends pool names p) }

      pub named_object : def.kind ≡ kind.InputObject → Checks (of_object refs types fields nodes literals variables room type row s) r
          → Checks (of_named refs types fields nodes literals variables room row s name) r
      unfolding of_named coerce_named when is_input_object of_object
      named_object k q = record { ends = λ pool names p. rw (← e, h, ← d, k) (q.ends pool names p) }

  -- ---- any type

  module _ (ty row : ℕ) (s : Shape) {t : TypeRef} (e : t ≡ type_ref_at refs ty) {r : Coercion} where
    pub shape_named : {name : ℕ} {nullable : Bool} → t ≡ ref.Named name nullable
        → Checks (of_named refs types fields nodes literals variables room row s name) r
        → Checks (of_shape refs types fields nodes literals variables room ty row s) r
    unfolding of_shape coerce_shape of_named
    shape_named h q = record { ends = λ pool names p. rw (← e, h) (q.ends pool names p) }

    pub shape_items : {inner : ℕ} {nullable : Bool} {rows : Range} → t ≡ ref.ListOf inner nullable → ItemsAt row s rows
        → Checks (of_items refs types fields nodes literals variables room inner (rows_in rows)) r
        → Checks (of_shape refs types fields nodes literals variables room ty row s) r
    unfolding of_shape coerce_shape of_items
    shape_items h w q = record { ends = λ pool names p. rw (← e, h, ← w.are) (q.ends pool names p) }

    pub shape_unknown : t ≡ ref.Unknown → r ≡ literal_fails literals error.UndefinedInputType row
        → Checks (of_shape refs types fields nodes literals variables room ty row s) r
    unfolding of_shape coerce_shape place_of
    shape_unknown h f = record { ends = λ pool names p. rw (← e, h, f) (fails literals error.UndefinedInputType row p refl) }

  -- ---- a literal

  by_form : (ty row : ℕ) (pool names : List ℕ) (p : Path)
      → coerce_argument_value pool names refs types fields nodes literals variables room p ty row
      ≡ coerce_literal pool names refs types fields nodes literals variables room (inside refs types fields nodes literals variables room pool names p) p ty row (literal_form (literal_at literals row))
  unfolding coerce_argument_value inside
  by_form ty row pool names p = go room
    where
      go : (n : ℕ) → coerce_argument_value pool names refs types fields nodes literals variables n p ty row
          ≡ coerce_literal pool names refs types fields nodes literals variables n (inside refs types fields nodes literals variables n pool names p) p ty row (literal_form (literal_at literals row))
      go zero = refl
      go (suc n) = refl

  module _ (ty row : ℕ) {f : Form} (e : FormAt literals row f) where
    module _ {b : Bool} (h : f ≡ form.Null) (g : b ≡ non_null refs ty) where
      pub value_inner_null : {r : Coercion} → b ≡ true → r ≡ literal_fails literals error.InnerNull row
          → Checks (of_value refs types fields nodes literals variables room ty row) r
      unfolding of_value coerce_literal when place_of
      value_inner_null t k = record {
        ends = λ pool names p. rw (by_form ty row pool names p, e.is, h, ← g, t, k) (fails literals error.InnerNull row p refl);
      }

      pub value_null : b ≡ false → Checks (of_value refs types fields nodes literals variables room ty row) (Ok tt)
      unfolding of_value coerce_literal when
      value_null t = record { ends = λ pool names p. rw (by_form ty row pool names p, e.is, h, ← g, t) (value_pure null) }

    pub value_variable : {name : ℕ} {r : Coercion} → f ≡ form.Variable name → ChecksInner refs nodes literals variables ty row name r
        → Checks (of_value refs types fields nodes literals variables room ty row) r
    unfolding of_value coerce_literal of_variable
    value_variable h q = record { ends = λ pool names p. rw (by_form ty row pool names p, e.is, h) ((q.checks types fields).ends pool names p) }

    pub value_shaped : {s : Shape} {r : Coercion} → f ≡ form.Shaped s → Checks (of_shape refs types fields nodes literals variables room ty row s) r
        → Checks (of_value refs types fields nodes literals variables room ty row) r
    unfolding of_value coerce_literal of_shape
    value_shaped h q = record { ends = λ pool names p. rw (by_form ty row pool names p, e.is, h) (q.ends pool names p) }

-- ---- what each function goes by

pub ruleset valuing = (form_shaped, value_inner_null, value_null, value_variable, value_shaped)

pub ruleset shaping = (listable, shape_named, shape_items, shape_unknown)

pub ruleset naming = (named_undefined, named_other, named_object, shut)

pub ruleset objecting = (keyed_within, few_fields, few_declared, object_other, object_unknown, object_known, shut)

pub ruleset itemizing = (items_full, going_begin, going_again, items_stopped, items_ended, shut)

pub ruleset fielding = (field_given, field_default_lem, field_missing, field_absent)

pub ruleset opening = (fields_full, fields_begin, going_again, fields_stopped, fields_ended, shut)
