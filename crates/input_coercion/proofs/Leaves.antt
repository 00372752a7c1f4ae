-- What the small functions answer, way by way: a variable that is null, the form of a literal and its items. Assumes
-- nothing.
use mathlib.Core.Path.{◌≡◌, refl, sym, ◌∙◌}
use mathlib.Core.Bool.{Bool, false}
use mathlib.Core.List.{List, [], ◌∷◌}
use Rattle.std.specs.Prelude.{Option, Some, None}
use Prim.Native.Nat.{ℕ, ◌<◌}
use native.Mathlib.Omega.{arith}
use types.Run.{miss}
use borrow.Enum.Refused.{Among, opened, shut}
use denote.Enum.Declared.{tag_of}
use Rattle.rows.specs.Json.{node_at, literal_at, variable_at}
use Rattle.rows.specs.declared.layout.Range.{Range}
use Rattle.rows.specs.declared.json.Node.{Node}
use Rattle.rows.specs.declared.json.Node.TheVariants as node
use Rattle.rows.specs.declared.json.Literal.{Literal}
use Rattle.rows.specs.declared.json.Literal.TheVariants as literal
use Rattle.rows.specs.declared.json.VariableValue.{VariableValue}
use Rattle.rows.specs.contracts.json.Node.{the_type as node_type}
use Rattle.rows.specs.contracts.json.Literal.{the_type as literal_type}
use Rattle.graphql.specs.Lookup.{rows_from, rows_in, non_null}
use Rattle.graphql.specs.Values.{node_form, literal_form}
use Rattle.graphql.specs.Values as defined
use Rattle.graphql.specs.Coerce.{is_null_form, items_of, null_against}
use Rattle.input_coercion.specs.Coerced.{shape_meant, FormAt, ItemsAt, Listable}
use Rattle.input_coercion.specs.declared.check.Shape.{Shape}
use Rattle.input_coercion.specs.declared.check.Shape.TheVariants as shape
use Rattle.input_coercion.specs.declared.check.Form.TheVariants as form
use Rattle.input_coercion.specs.contracts.check.Shape.{the_type as shape_type}

-- ---- a variable that is null

abbrev others : List ℕ
others = 1 ∷ 2 ∷ 3 ∷ 4 ∷ 5 ∷ 6 ∷ 7 ∷ 8 ∷ 9 ∷ []

no_null_lem : (n : Node) → Among others (tag_of node_type n) → is_null_form (node_form n) ≡ false
unfolding is_null_form node_form
no_null_lem node.Null o = absurd (miss others 0 tt (opened o))
no_null_lem node.False o = refl
no_null_lem node.True o = refl
no_null_lem (node.Natural low high) o = refl
no_null_lem (node.Negative low high) o = refl
no_null_lem (node.Float text) o = refl
no_null_lem (node.String text) o = refl
no_null_lem (node.Array rows) o = refl
no_null_lem (node.Object rows) o = refl
no_null_lem node.Unknown o = refl

module _ (refs nodes variables : List ℕ) (ty row : ℕ) {v : VariableValue} {n : Node} (e : v ≡ variable_at variables row) (f : n ≡ node_at nodes v.node) where
  pub a_null_lem : {b : Bool} → n ≡ node.Null → b ≡ non_null refs ty → b ≡ null_against refs nodes variables ty row
  unfolding null_against is_null_form node_form
  a_null_lem h g = rw (← e, ← f, h) g

  pub no_null_there : Among others (tag_of node_type n) → false ≡ null_against refs nodes variables ty row
  unfolding null_against
  no_null_there o = rw (← e, ← f, no_null_lem n o)

pub ruleset against = (a_null_lem, no_null_there, shut)

-- ---- the form of a literal

abbrev singles : List ℕ
singles = 1 ∷ 2 ∷ 3 ∷ 4 ∷ 5 ∷ 6 ∷ 9 ∷ 11 ∷ []

single_form : (l : Literal) → Among singles (tag_of literal_type l) → literal_form l ≡ defined.shaped defined.single
unfolding literal_form
single_form literal.Null o = absurd (miss singles 0 tt (opened o))
single_form literal.False o = refl
single_form literal.True o = refl
single_form (literal.Natural n) o = refl
single_form (literal.Negative m) o = refl
single_form (literal.Float text) o = refl
single_form (literal.String text) o = refl
single_form (literal.List rows) o = absurd (miss singles 7 tt (opened o))
single_form (literal.Object rows) o = absurd (miss singles 8 tt (opened o))
single_form (literal.Enum name) o = refl
single_form (literal.Variable name) o = absurd (miss singles 10 tt (opened o))
single_form literal.Unknown o = refl

module _ (literals : List ℕ) (row : ℕ) {l : Literal} (e : l ≡ literal_at literals row) where
  pub form_null : l ≡ literal.Null → FormAt literals row form.Null
  unfolding literal_form
  form_null h = record { is = rw (← e, h) }

  pub form_variable : {name : ℕ} → l ≡ literal.Variable name → FormAt literals row (form.Variable name)
  unfolding literal_form
  form_variable h = record { is = rw (← e, h) }

  pub form_list : {rows : Range} → l ≡ literal.List rows → FormAt literals row (form.Shaped (shape.Listed rows))
  unfolding literal_form
  form_list h = record { is = rw (← e, h) }

  pub form_object : {rows : Range} → l ≡ literal.Object rows → FormAt literals row (form.Shaped (shape.Keyed rows))
  unfolding literal_form
  form_object h = record { is = rw (← e, h) }

  pub form_single : Among singles (tag_of literal_type l) → FormAt literals row (form.Shaped shape.Single)
  form_single o = record { is = rw (← e) (single_form l o) }

pub ruleset forms = (form_null, form_variable, form_list, form_object, form_single, shut)

-- ---- the items of a literal at a list type

abbrev unlisted : List ℕ
unlisted = 0 ∷ 2 ∷ []

module _ (row : ℕ) (s : Shape) where
  pub items_listed : {rows : Range} → Listable s → s ≡ shape.Listed rows → ItemsAt row s rows
  unfolding items_of
  items_listed {rows} w h = record { are = rw h; words = omega (arith, w.few rows h) }

  pub items_wrapped : row < 4294967296 → Among unlisted (tag_of shape_type s) → ItemsAt row s (record { first = row; count = 1 })
  unfolding items_of rows_in rows_from
  items_wrapped l o = record { are = go s o; words = omega arith }
    where
      go : (s : Shape) → Among unlisted (tag_of shape_type s) → row ∷ [] ≡ items_of row (shape_meant s)
      go shape.Single o = refl
      go (shape.Listed rows) o = absurd (miss unlisted 1 tt (opened o))
      go (shape.Keyed rows) o = refl
