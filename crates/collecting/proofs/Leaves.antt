-- Skip and include, and which fragments apply, way by way. Assumes nothing.
use mathlib.Core.Path.{◌≡◌, refl, sym}
use mathlib.Core.Bool.{Bool, true, false}
use mathlib.Core.List.{List, [], ◌∷◌}
use Prim.Native.Nat.{ℕ, ◌+◌, ◌≤◌}
use lib.Dec.{eqb}
use types.Run.{miss}
use borrow.Enum.Refused.{Among, opened}
use denote.Enum.Declared.{tag_of}
use Rattle.rows.specs.Limits.{most_rows}
use Rattle.rows.specs.Schema.{type_at}
use Rattle.rows.specs.Json.{node_at, variable_at}
use Rattle.std.specs.Prelude.{Option, Some, None}
use Rattle.rows.specs.declared.json.VariableValue.{VariableValue}
use Rattle.rows.specs.declared.json.Node.{Node}
use Rattle.rows.specs.declared.json.Node.TheVariants as node
use Rattle.rows.specs.contracts.json.Node.{the_type}
use Rattle.rows.specs.declared.schema.TypeDef.{TypeDef}
use Rattle.rows.specs.declared.schema.TypeKind.{TypeKind}
use Rattle.rows.specs.declared.schema.TypeKind.TheVariants as kind
use Rattle.rows.specs.contracts.schema.TypeKind as kinds
use Rattle.graphql.specs.Lookup.{type_named, lists, variable_named}
use Rattle.graphql.specs.Values.{node_form}
use Rattle.graphql.specs.Collect.{or_default, variable_holds, applies_by, does_fragment_type_apply}
use Rattle.lookup.proofs.Fragments.{found_none, found_some}
use Rattle.lookup.specs.Found.{Listed}

-- the numbers of the variants that are no booleans
abbrev others : List ℕ
others = 0 ∷ 3 ∷ 4 ∷ 5 ∷ 6 ∷ 7 ∷ 8 ∷ 9 ∷ []

no_boolean : (default : Bool) (n : Node) → Among others (tag_of the_type n) → or_default default (node_form n) ≡ default
unfolding or_default node_form
no_boolean default node.Null o = refl
no_boolean default node.False o = absurd (miss others 1 tt (opened o))
no_boolean default node.True o = absurd (miss others 2 tt (opened o))
no_boolean default (node.Natural low high) o = refl
no_boolean default (node.Negative low high) o = refl
no_boolean default (node.Float text) o = refl
no_boolean default (node.String text) o = refl
no_boolean default (node.Array rows) o = refl
no_boolean default (node.Object rows) o = refl
no_boolean default node.Unknown o = refl

module _ (variables nodes : List ℕ) (default : Bool) (name : ℕ) {found : Option ℕ} (e : found ≡ (variable_named variables name)) where
  pub variable_absent : found ≡ None → default ≡ variable_holds variables nodes default (variable_named variables name)
  unfolding variable_holds
  variable_absent h = rw (found_none (variable_named variables name) e h)

  module _ {row : ℕ} (h : found ≡ Some row) {v : VariableValue} (read : v ≡ variable_at variables row) {n : Node} (value : n ≡ node_at nodes v.node) where
    by_node : variable_holds variables nodes default (variable_named variables name) ≡ or_default default (node_form n)
    unfolding variable_holds
    by_node = rw (found_some (variable_named variables name) e h, ← read, ← value)

    pub variable_false : n ≡ node.False → false ≡ variable_holds variables nodes default (variable_named variables name)
    unfolding or_default node_form
    variable_false k = rw (by_node, k)

    pub variable_true : n ≡ node.True → true ≡ variable_holds variables nodes default (variable_named variables name)
    unfolding or_default node_form
    variable_true k = rw (by_node, k)

    pub variable_other : Among others (tag_of the_type n) → default ≡ variable_holds variables nodes default (variable_named variables name)
    variable_other o = rw by_node (sym (no_boolean default n o))

pub ruleset conditions = (variable_absent, variable_false, variable_true, variable_other)

pub members_few : {types : List ℕ} (type : ℕ) → Listed types → (type_at types type).members.first + (type_at types type).members.count ≤ most_rows
members_few type h = h.within type

-- the numbers of the kinds to which no fragment applies
abbrev neither : List ℕ
neither = 0 ∷ 1 ∷ 5 ∷ 6 ∷ []

module _ (types members : List ℕ) (object n : ℕ) {found : Option ℕ} (e : found ≡ (type_named types n)) where
  pub no_type : found ≡ None → false ≡ does_fragment_type_apply types members object n
  unfolding does_fragment_type_apply
  no_type h = rw (found_none (type_named types n) e h, does_fragment_type_apply)

  module _ {row : ℕ} (h : found ≡ Some row) {ty : TypeDef} (read : ty ≡ type_at types row) where
    by_kind : does_fragment_type_apply types members object n ≡ applies_by types members object n row ty.kind
    unfolding does_fragment_type_apply
    by_kind = rw (found_some (type_named types n) e h, does_fragment_type_apply, ← read)

    pub applies_object : {name : ℕ} → ty.kind ≡ kind.Object → name ≡ (type_at types object).name → eqb n name ≡ does_fragment_type_apply types members object n
    unfolding applies_by
    applies_object k m = rw (by_kind, k, m)

    pub applies_interface : {r : Bool} → ty.kind ≡ kind.Interface → r ≡ lists types members object n → r ≡ does_fragment_type_apply types members object n
    unfolding applies_by
    applies_interface k m = rw (by_kind, k) m

    pub applies_union : {name : ℕ} {r : Bool} → ty.kind ≡ kind.Union → name ≡ (type_at types object).name → r ≡ lists types members row name
        → r ≡ does_fragment_type_apply types members object n
    unfolding applies_by
    applies_union k m l = rw (by_kind, k, ← m) l

    pub applies_never : Among neither (tag_of kinds.the_type ty.kind) → false ≡ does_fragment_type_apply types members object n
    unfolding applies_by
    applies_never o = rw by_kind (go ty.kind o)
      where
        go : (k : TypeKind) → Among neither (tag_of kinds.the_type k) → false ≡ applies_by types members object n row k
        go kind.Scalar o = refl
        go kind.Enum o = refl
        go kind.Object o = absurd (miss neither 2 tt (opened o))
        go kind.Interface o = absurd (miss neither 3 tt (opened o))
        go kind.Union o = absurd (miss neither 4 tt (opened o))
        go kind.InputObject o = refl
        go kind.Unknown o = refl

pub ruleset applying = (members_few, no_type, applies_object, applies_interface, applies_union, applies_never)
