-- A literal at a type, way by way: what a function knows where it returns is what the definition says there. Assumes nothing.
use mathlib.Core.Path.{◌≡◌, refl, sym, ◌∙◌}
use mathlib.Core.Bool.{Bool}
use mathlib.Core.List.{List, [], ◌∷◌}
use Rattle.std.specs.Prelude.{Option, Some, None}
use Prim.Native.Nat.{ℕ, zero, suc}
use types.Run.{miss}
use borrow.Enum.Refused.{Among, opened, shut}
use denote.Enum.Declared.{tag_of}
use Rattle.rows.specs.Schema.{type_ref_at, type_at}
use Rattle.rows.specs.Json.{literal_at}
use Rattle.rows.specs.declared.layout.Range.{Range}
use Rattle.rows.specs.declared.schema.TypeRef.{TypeRef}
use Rattle.rows.specs.declared.schema.TypeRef.TheVariants as ref
use Rattle.rows.specs.declared.schema.TypeKind.TheVariants as kind
use Rattle.rows.specs.declared.schema.TypeDef.{TypeDef}
use Rattle.rows.specs.contracts.schema.TypeKind.{the_type as kind_type}
use Rattle.codes.specs.declared.errors.FieldError.TheVariants as error
use Rattle.tokens.specs.Literal.{null_name}
use Rattle.writing.specs.Wrote.{Writes}
use Rattle.graphql.specs.Run.{Path, M, pure, when}
use Rattle.graphql.specs.Json.{Json, null, print, containers}
use Rattle.graphql.specs.Lookup.{rows_in, non_null, type_named}
use Rattle.graphql.specs.Values.{literal_form}
use Rattle.graphql.specs.Coerce.{is_input_object, unknown_key, known_object, input_object, coerce_named, coerce_shape, coerce_literal, coerce_argument_value}
use Rattle.input_coercion.specs.Coerced.{shape_meant, FormAt, ItemsAt, Coercible, inside}
use Rattle.input_coercion.specs.declared.check.Shape.{Shape}
use Rattle.input_coercion.specs.declared.check.Shape.TheVariants as shape
use Rattle.input_coercion.specs.declared.check.Form.{Form}
use Rattle.input_coercion.specs.declared.check.Form.TheVariants as form
use Rattle.input_coercion.specs.contracts.check.Shape.{the_type as shape_type}
use Rattle.input_coercion.proofs.Walk.{form_shaped, listable, keyed_within, few_declared, other_kinds, other_kind}
use Rattle.values.specs.Literals.{LiteralsParted}
use Rattle.echoing.specs.Echo.{Put, Comes, Echoes, EchoesVariable, EchoesFields, of_part, of_value, of_variable, of_items, of_named, of_shape, of_fields}
use Rattle.echoing.proofs.Comes.{comes_pure, comes_failed, not_failed}
use Rattle.echoing.proofs.Leaves.{never, null_shown}
use Rattle.echoing.proofs.Fields.{items_full, items_begin, items_again, items_stopped, items_ended, field_given, field_default_lem, field_absent, fields_full, fields_begin, fields_again, fields_stopped, fields_ended}

-- the parts of a literal are few by either name
pub literals_parted_lem : {types nodes literals variables : List ℕ} → Coercible types nodes literals variables → LiteralsParted literals
unfolding literal_form
literals_parted_lem w = record {
  of_list = λ row rows e. w.parted.lists row rows (rw e);
  of_object = λ row rows e. w.parted.objects row rows (rw e);
}

abbrev unkeyed : List ℕ
unkeyed = 0 ∷ 1 ∷ []

module _ (pool names refs types fields nodes literals variables : List ℕ) (room : ℕ) where
  -- the coercion one container further in
  abbrev deeper : Path → ℕ → ℕ → M Json
  deeper p = inside refs types fields nodes literals variables room pool names p

  -- ---- a named type

  -- what an object literal comes to where its type is an input object
  as_object : (row : ℕ) (s : Shape) (name type : ℕ) {found : Option ℕ} {def : TypeDef} → found ≡ (type_named types name) → found ≡ Some type
      → def ≡ type_at types type → def.kind ≡ kind.InputObject → (p : Path) (j : Json)
      → Comes (of_named pool names refs types fields nodes literals variables room row s name p) j
      → Comes (input_object pool names refs types fields nodes literals variables room (deeper p) p type row (shape_meant s)) j
  unfolding of_named coerce_named when is_input_object
  as_object row s name type e h d k p j q = rw (sym e ∙ h, ← d, k) at q

  module _ (row : ℕ) (s : Shape) (name : ℕ) {found : Option ℕ} (e : found ≡ (type_named types name)) {text : List ℕ} {at : ℕ} where
    pub named_undefined : found ≡ None
        → Echoes room (of_named pool names refs types fields nodes literals variables room row s name) text at None text
    unfolding of_named coerce_named
    named_undefined h =
        never containers print room _ text at
        (λ p j q. comes_failed literals error.UndefinedInputType row p (rw (sym e ∙ h) at q))

    module _ {type : ℕ} {def : TypeDef} (h : found ≡ Some type) (d : def ≡ type_at types type) where
      pub named_other : {r : Put} {text' : List ℕ} → Among other_kinds (tag_of kind_type def.kind)
          → Echoes room (of_part pool names literals room row) text at r text'
          → Echoes room (of_named pool names refs types fields nodes literals variables room row s name) text at r text'
      unfolding of_named coerce_named when of_part
      named_other o w = record {
        long = w.long;
        shown = λ p j q. w.shown p j (rw (sym e ∙ h, ← d, other_kind def.kind o) at q);
      }

      pub named_unkeyed : def.kind ≡ kind.InputObject → Among unkeyed (tag_of shape_type s)
          → Echoes room (of_named pool names refs types fields nodes literals variables room row s name) text at None text
      unfolding input_object
      named_unkeyed k o = never containers print room _ text at (λ p j q. go s o p j (as_object row s name type e h d k p j q))
        where
          go : (s : Shape) → Among unkeyed (tag_of shape_type s) → (p : Path) (j : Json)
              → Comes (input_object pool names refs types fields nodes literals variables room (deeper p) p type row (shape_meant s)) j → ⊥
          go shape.Single o p j q = comes_failed literals error.CannotCoerce row p q
          go (shape.Listed rows) o p j q = comes_failed literals error.CannotCoerce row p q
          go (shape.Keyed rows) o p j q = absurd (miss unkeyed 2 tt (opened o))

      pub named_object : {given : Range} {r : Put} {text' : List ℕ} → def.kind ≡ kind.InputObject → s ≡ shape.Keyed given
          → EchoesFields pool names refs types fields nodes literals variables room (rows_in given) (rows_in def.fields) text at r text'
          → Echoes room (of_named pool names refs types fields nodes literals variables room row s name) text at r text'
      unfolding input_object known_object of_fields
      named_object {given} k z w = record {
        long = w.long;
        shown = λ p j q. w.shown (row, p) j (go p j (unknown_key types fields literals type (rows_in given)) (rw z at
            (as_object row s name type e h d k p j q)));
      }
        where
          go : (p : Path) (j : Json) (o : Option ℕ)
              → Comes (known_object pool names refs types fields nodes literals variables room (deeper p) p type row (rows_in given) o) j
              → Comes (of_fields pool names refs types fields nodes literals variables room (rows_in given) (rows_in def.fields) (row, p)) j
          go p j None q = rw (← d) at q
          go p j (Some key) q = absurd (comes_failed literals error.UnknownKey row p q)

  -- ---- any type

  module _ (ty row : ℕ) (s : Shape) {t : TypeRef} (e : t ≡ type_ref_at refs ty) {r : Put} {text text' : List ℕ} {at : ℕ} where
    pub shape_named : {name : ℕ} {nullable : Bool} → t ≡ ref.Named name nullable
        → Echoes room (of_named pool names refs types fields nodes literals variables room row s name) text at r text'
        → Echoes room (of_shape pool names refs types fields nodes literals variables room ty row s) text at r text'
    unfolding of_shape coerce_shape of_named
    shape_named h w = record { long = w.long; shown = λ p j q. w.shown p j (rw (← e, h) at q) }

    pub shape_items : {inner : ℕ} {nullable : Bool} {rows : Range} → t ≡ ref.ListOf inner nullable → ItemsAt row s rows
        → Echoes room (of_items pool names refs types fields nodes literals variables room inner (rows_in rows)) text at r text'
        → Echoes room (of_shape pool names refs types fields nodes literals variables room ty row s) text at r text'
    unfolding of_shape coerce_shape of_items
    shape_items h i w = record { long = w.long; shown = λ p j q. w.shown p j (rw (← e, h, ← i.are) at q) }

  pub shape_unknown : (ty row : ℕ) (s : Shape) {t : TypeRef} {text : List ℕ} {at : ℕ} → t ≡ type_ref_at refs ty → t ≡ ref.Unknown
      → Echoes room (of_shape pool names refs types fields nodes literals variables room ty row s) text at None text
  unfolding of_shape coerce_shape
  shape_unknown ty row s {text = text} {at = at} e h =
      never containers print room _ text at (λ p j q. comes_failed literals error.UndefinedInputType row p (rw (← e, h) at q))

  -- ---- a literal

  pub by_form : (ty row : ℕ) (p : Path)
      → of_value pool names refs types fields nodes literals variables room ty row p
      ≡ coerce_literal pool names refs types fields nodes literals variables room (deeper p) p ty row (literal_form (literal_at literals row))
  unfolding of_value coerce_argument_value inside
  by_form ty row p = go room
    where
      go : (n : ℕ) → coerce_argument_value pool names refs types fields nodes literals variables n p ty row
          ≡ coerce_literal pool names refs types fields nodes literals variables n
          (inside refs types fields nodes literals variables n pool names p) p ty row (literal_form (literal_at literals row))
      go zero = refl
      go (suc n) = refl

  module _ (ty row : ℕ) {f : Form} (e : FormAt literals row f) {text text' : List ℕ} {at : ℕ} where
    pub value_null : {end : ℕ} → f ≡ form.Null → Writes text text' at end null_name
        → Echoes room (of_value pool names refs types fields nodes literals variables room ty row) text at (Some end) text'
    unfolding coerce_literal
    value_null h w = record {
      long = w.wrote.long;
      shown = λ p j q.
          null_shown room
          (comes_pure (not_failed (non_null refs ty) literals error.InnerNull row p (pure null) (rw (by_form ty row p, e.is, h) at q))) w;
    }

    module _ {r : Put} where
      pub value_variable : {name : ℕ} → f ≡ form.Variable name → EchoesVariable pool nodes variables room name text at r text'
          → Echoes room (of_value pool names refs types fields nodes literals variables room ty row) text at r text'
      unfolding coerce_literal of_variable
      value_variable h w =
          let v = w.echoes names refs types fields literals ty row in
          record { long = v.long; shown = λ p j q. v.shown p j (rw (by_form ty row p, e.is, h) at q) }

      pub value_shaped : {s : Shape} → f ≡ form.Shaped s
          → Echoes room (of_shape pool names refs types fields nodes literals variables room ty row s) text at r text'
          → Echoes room (of_value pool names refs types fields nodes literals variables room ty row) text at r text'
      unfolding coerce_literal of_shape
      value_shaped h w = record { long = w.long; shown = λ p j q. w.shown p j (rw (by_form ty row p, e.is, h) at q) }

-- ---- what each function goes by

pub ruleset valuing = (form_shaped, value_null, value_variable, value_shaped)

pub ruleset shaping = (listable, shape_named, shape_items, shape_unknown)

pub ruleset naming = (literals_parted_lem, keyed_within, few_declared, named_undefined, named_other, named_unkeyed, named_object, shut)

pub ruleset itemizing = (items_full, items_begin, items_again, items_stopped, items_ended)

pub ruleset fielding = (literals_parted_lem, field_given, field_default_lem, field_absent)

pub ruleset opening = (fields_full, fields_begin, fields_again, fields_stopped, fields_ended)
