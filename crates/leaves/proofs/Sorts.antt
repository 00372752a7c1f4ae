-- The sort of a leaf, way by way. Assumes nothing.
use mathlib.Core.Path.{◌≡◌, refl, sym, ◌∙◌}
use mathlib.Core.Bool.{Bool, true, false}
use mathlib.Core.List.{List, [], ◌∷◌}
use Prim.Native.Nat.{ℕ}
use types.Run.{miss}
use borrow.Enum.Refused.{Among, opened, shut}
use denote.Enum.Declared.{tag_of}
use Rattle.rows.specs.Schema.{type_ref_at, type_at}
use Rattle.rows.specs.Json.{node_at, literal_at}
use Rattle.std.specs.Prelude.{Option, Some, None}
use Rattle.rows.specs.declared.schema.TypeRef.{TypeRef}
use Rattle.rows.specs.declared.schema.TypeRef.TheVariants as ref
use Rattle.rows.specs.declared.schema.TypeKind.TheVariants as kind
use Rattle.rows.specs.declared.schema.TypeDef.{TypeDef}
use Rattle.rows.specs.contracts.schema.TypeRef.{the_type as ref_type}
use Rattle.rows.specs.contracts.schema.TypeKind.{the_type as kind_type}
use Rattle.codes.specs.Outcome.{most_open}
use Rattle.graphql.specs.Json.{Json, sort_of}
use Rattle.graphql.specs.Lookup.{type_named}
use Rattle.graphql.specs.Coerce.{is_input_object}
use Rattle.input_coercion.specs.Coerced.{form_meant, FormAt}
use Rattle.input_coercion.specs.declared.check.Form.{Form}
use Rattle.input_coercion.specs.declared.check.Form.TheVariants as form
use Rattle.input_coercion.specs.contracts.check.Form.{the_type as form_type}
use Rattle.input_coercion.proofs.Walk.{other_kinds, other_kind}
use Rattle.values.specs.Plain.{said, node_sort}
use Rattle.values.specs.Literals.{literal_sort}
use Rattle.values.specs.declared.sort.Sort.{Sort}
use Rattle.values.specs.declared.sort.Sort.TheVariants as sort
use Rattle.values.proofs.Sorted.{node_sorted, literal_sorted}
use Rattle.leaves.specs.Leaves.{SortsLeaf}
use Rattle.leaves.specs.Literals.{named_container, is_container, sort_of_form, coerced_sort}
use Rattle.leaves.specs.declared.leaf.Leaf.{Leaf}
use Rattle.leaves.specs.declared.leaf.Leaf.TheVariants as leaf
use Rattle.leaves.proofs.Coerced.{Became, as_null, as_container, as_parts, became}

-- ---- whether a type makes a container of a literal

abbrev unnamed : List ℕ
unnamed = 1 ∷ 2 ∷ []

module _ (refs types : List ℕ) (ty : ℕ) {t : TypeRef} (e : t ≡ type_ref_at refs ty) where
  pub container_unnamed : Among unnamed (tag_of ref_type t) → true ≡ is_container types (type_ref_at refs ty)
  unfolding is_container
  container_unnamed o = rw (← e) (go t o)
    where
      go : (t : TypeRef) → Among unnamed (tag_of ref_type t) → true ≡ is_container types t
      go (ref.Named name nullable) o = absurd (miss unnamed 0 tt (opened o))
      go (ref.ListOf inner nullable) o = refl
      go ref.Unknown o = refl

  module _ {name : ℕ} {nullable : Bool} {found : Option ℕ} (h : t ≡ ref.Named name nullable) (f : found ≡ (type_named types name)) where
    pub container_undefined : found ≡ None → false ≡ is_container types (type_ref_at refs ty)
    unfolding is_container named_container
    container_undefined n = rw (← e, h, sym f ∙ n)

    module _ {type : ℕ} {def : TypeDef} (n : found ≡ Some type) (d : def ≡ type_at types type) where
      pub container_other : Among other_kinds (tag_of kind_type def.kind) → false ≡ is_container types (type_ref_at refs ty)
      unfolding is_container named_container
      container_other o = rw (← e, h, sym f ∙ n, ← d, other_kind def.kind o)

      pub container_object : def.kind ≡ kind.InputObject → true ≡ is_container types (type_ref_at refs ty)
      unfolding is_container named_container is_input_object
      container_object k = rw (← e, h, sym f ∙ n, ← d, k)

pub ruleset containing = (container_unnamed, container_undefined, container_other, container_object, shut)

-- ---- the sort of a literal at a type

abbrev no_null : List ℕ
no_null = 1 ∷ 2 ∷ []

module _ (refs types literals : List ℕ) (ty row : ℕ) {f : Form} (e : FormAt literals row f) where
  pub sort_null : f ≡ form.Null → sort.Null ≡ said (coerced_sort refs types literals ty row)
  unfolding coerced_sort sort_of_form
  sort_null h = rw (e.is, h)

  module _ (o : Among no_null (tag_of form_type f)) {b : Bool} (k : b ≡ is_container types (type_ref_at refs ty)) where
    pub sort_container : b ≡ true → sort.Container ≡ said (coerced_sort refs types literals ty row)
    unfolding coerced_sort sort_of_form
    sort_container h = rw (e.is, ← k, h) (go f o)
      where
        go : (f : Form) → Among no_null (tag_of form_type f)
            → sort.Container ≡ said (sort_of_form (form_meant f) true (literal_sort (literal_at literals row)))
        go form.Null o = absurd (miss no_null 0 tt (opened o))
        go (form.Variable name) o = refl
        go (form.Shaped s) o = refl

    pub sort_own : {r : Sort} → b ≡ false → r ≡ said (literal_sort (literal_at literals row)) → r ≡ said (coerced_sort refs types literals ty row)
    unfolding coerced_sort sort_of_form
    sort_own {r} h i = rw (e.is, ← k, h) (go f o)
      where
        go : (f : Form) → Among no_null (tag_of form_type f) → r ≡ said (sort_of_form (form_meant f) false (literal_sort (literal_at literals row)))
        go form.Null o = absurd (miss no_null 0 tt (opened o))
        go (form.Variable name) o = i
        go (form.Shaped s) o = i

pub ruleset sorting = (sort_null, sort_container, sort_own, shut)

-- ---- the sort of a leaf is that of its value

module _ (pool names refs types fields nodes literals variables : List ℕ) (ty row : ℕ) (j : Json) where
  coerced_sorted : Became pool names refs types fields nodes literals variables ty row j → coerced_sort refs types literals ty row ≡ sort_of j
  unfolding coerced_sort sort_of_form sort_of
  coerced_sorted (as_null h e) = rw (h, ← e)
  coerced_sorted (as_container s h k e) = rw (h, k, e)
  coerced_sorted (as_parts s h k q) =
      rw (h, k) (literal_sorted pool names literals most_open row j q.log q.from q.to q.is)

module _ (refs types nodes literals : List ℕ) {l : Leaf} {r : Sort} where
  pub sorts_node : {row : ℕ} → l ≡ leaf.Node row → r ≡ said (node_sort (node_at nodes row)) → SortsLeaf refs types nodes literals l r
  sorts_node {row} h e =
      rw h
      (record {
        sorts = λ pool names fields variables j q. rw (e, node_sorted pool nodes _ row j q.log q.from q.to q.is);
      })

  pub sorts_literal : {ty row : ℕ} → l ≡ leaf.Literal ty row → r ≡ said (coerced_sort refs types literals ty row)
      → SortsLeaf refs types nodes literals l r
  sorts_literal {ty} {row} h e =
      rw h
      (record {
        sorts = λ pool names fields variables j q.
            rw (
              e,
              coerced_sorted pool names refs types fields nodes literals variables ty row j
                  (became pool names refs types fields nodes literals variables ty row j q),
            );
      })

  pub sorts_default : {row : ℕ} → l ≡ leaf.Default row → r ≡ said (literal_sort (literal_at literals row)) → SortsLeaf refs types nodes literals l r
  sorts_default {row} h e =
      rw h
      (record {
        sorts = λ pool names fields variables j q. rw (e, literal_sorted pool names literals most_open row j q.log q.from q.to q.is);
      })

pub sorts_name : (refs types nodes literals : List ℕ) {l : Leaf} {name : ℕ} → l ≡ leaf.Name name → SortsLeaf refs types nodes literals l sort.String
unfolding sort_of
sorts_name refs types nodes literals h = rw h (record { sorts = λ pool names fields variables j q. rw q })

pub ruleset leafed = (sorts_node, sorts_name, sorts_literal, sorts_default)
