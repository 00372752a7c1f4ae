-- What is expected at a type, and a field's definition, way by way. Assumes nothing.
use mathlib.Core.Path.{◌≡◌, refl, ◌∙◌}
use mathlib.Core.Bool.{Bool, false}
use mathlib.Core.List.{List, [], ◌∷◌}
use Rattle.std.specs.Prelude.{Option, Some, None}
use Prim.Native.Nat.{ℕ, ◌+◌, ◌-◌, ◌≤◌, ◌<◌}
use native.Mathlib.Omega.{arith}
use lib.Dec.{eqb}
use types.Run.{miss}
use borrow.Enum.Refused.{Among, opened}
use denote.Enum.Declared.{tag_of}
use borrow.Author.Tests.{ne_eqb, lt-ltb, le-ltb}
use Rattle.rows.specs.Layout.{type_width}
use Rattle.rows.specs.Limits.{most_types, most_fields}
use Rattle.rows.specs.Rows.{rows_of}
use Rattle.rows.specs.Schema.{type_ref_at, type_at, field_at}
use Rattle.rows.specs.declared.schema.TypeDef.{TypeDef}
use Rattle.rows.specs.declared.schema.Field.{Field}
use Rattle.rows.specs.declared.schema.TypeRef.{TypeRef}
use Rattle.rows.specs.declared.schema.TypeRef.TheVariants as ref
use Rattle.rows.specs.declared.schema.TypeKind.{TypeKind}
use Rattle.rows.specs.declared.schema.TypeKind.TheVariants as kind
use Rattle.rows.specs.contracts.schema.TypeKind as kinds
use Rattle.graphql.specs.Lookup.{rows_in, type_named, field_named}
use Rattle.graphql.specs.Complete.{Definition, typename, defined, definition_of}
use Rattle.lookup.proofs.Searching.{find_below}
use Rattle.lookup.proofs.Fragments.{found_none, found_some}
use Rattle.planning.specs.Expected.{with', care, of_kind, expected_named, expected_at, expected_of, ref_of, Referred}
use Rattle.planning.specs.Plans.{definition_code, schema}
use Rattle.planning.specs.declared.expected.Expected.{Expected}

-- the numbers of the kinds that need care
abbrev others : List ℕ
others = 3 ∷ 4 ∷ 5 ∷ 6 ∷ []

module _ (types : List ℕ) (name : ℕ) {found : Option ℕ} (e : found ≡ (type_named types name)) where
  pub type_small : {row : ℕ} → found ≡ Some row → rows_of types type_width ≤ most_types → row < 65536
  unfolding type_named
  type_small {row = row'} h l =
      let b = find_below (λ row. eqb (type_at types row).name name) 0 (rows_of types type_width) row' (found_some (type_named types name) e h) in
      omega arith

  by_kind : (nullable : Bool) {row : ℕ} → found ≡ Some row → {def : TypeDef} → def ≡ type_at types row
      → expected_named types name nullable (type_named types name) ≡ of_kind nullable name row def.kind
  unfolding expected_named
  by_kind nullable h read = rw (found_some (type_named types name) e h, ← read)

  module _ (nullable : Bool) {r : Expected} where
    pub named_none : found ≡ None → r ≡ with' false 0 0 → r ≡ expected_named types name nullable (type_named types name)
    unfolding expected_named
    named_none h q = rw (found_none (type_named types name) e h) q

    module _ {row : ℕ} (h : found ≡ Some row) {def : TypeDef} (read : def ≡ type_at types row) where
      pub named_scalar : def.kind ≡ kind.Scalar → r ≡ with' nullable 1 name → r ≡ expected_named types name nullable (type_named types name)
      unfolding of_kind
      named_scalar k q = rw (by_kind nullable h read, k) q

      pub named_enum : def.kind ≡ kind.Enum → r ≡ with' nullable 2 row → r ≡ expected_named types name nullable (type_named types name)
      unfolding of_kind
      named_enum k q = rw (by_kind nullable h read, k) q

      pub named_object : def.kind ≡ kind.Object → r ≡ with' nullable 3 row → r ≡ expected_named types name nullable (type_named types name)
      unfolding of_kind
      named_object k q = rw (by_kind nullable h read, k) q

      pub named_other : Among others (tag_of kinds.the_type def.kind) → r ≡ with' false 0 0 → r
          ≡ expected_named types name nullable (type_named types name)
      unfolding of_kind
      named_other o q = rw (by_kind nullable h read) (q ∙ go def.kind o)
        where
          go : (k : TypeKind) → Among others (tag_of kinds.the_type k) → care ≡ of_kind nullable name row k
          go kind.Scalar o = absurd (miss others 0 tt (opened o))
          go kind.Enum o = absurd (miss others 1 tt (opened o))
          go kind.Object o = absurd (miss others 2 tt (opened o))
          go kind.Interface o = refl
          go kind.Union o = refl
          go kind.InputObject o = refl
          go kind.Unknown o = refl

pub ruleset naming = (type_small, named_none, named_scalar, named_enum, named_object, named_other)

module _ (refs types : List ℕ) (ty : ℕ) {t : TypeRef} (e : t ≡ type_ref_at refs ty) where
  module _ {inner : ℕ} {nullable : Bool} (h : t ≡ ref.ListOf inner nullable) where
    pub inner_small : Referred refs types → inner < 65536
    unfolding ref_of
    inner_small w = rw (← e, h) at (w.small ty)

    pub at_list : {r : Expected} → r ≡ with' nullable 4 inner → r ≡ expected_at types (type_ref_at refs ty)
    unfolding expected_at
    at_list q = rw (← e, h) q

  module _ {name : ℕ} {nullable : Bool} (h : t ≡ ref.Named name nullable) where
    pub name_small : Referred refs types → name < 65536
    unfolding ref_of
    name_small w = rw (← e, h) at (w.small ty)

    pub at_named : {r : Expected} → r ≡ expected_named types name nullable (type_named types name) → r ≡ expected_at types (type_ref_at refs ty)
    unfolding expected_at
    at_named q = rw (← e, h) q

  pub at_unknown : {r : Expected} → t ≡ ref.Unknown → r ≡ with' false 0 0 → r ≡ expected_at types (type_ref_at refs ty)
  unfolding expected_at
  at_unknown h q = rw (← e, h) q

pub types_few : {refs types : List ℕ} → Referred refs types → rows_of types type_width ≤ most_types
types_few w = w.few

pub ruleset referring = (inner_small, at_list, name_small, at_named, at_unknown, types_few)

-- ---- a field's definition

module _ (types fields : List ℕ) (object name : ℕ) where
  pub def_typename : name ≡ 0 → 1 ≡ definition_code (definition_of (schema types fields) object name)
  unfolding definition_of definition_code
  def_typename z = rw z

  module _ (n : name ≡ 0 → ⊥) {found : Option ℕ} (e : found ≡ (field_named types fields object name)) where
    by_field : (o : Option ℕ) → field_named types fields object name ≡ o
        → definition_of (schema types fields) object name ≡ (elim o as (λ o. Option Definition) [ None ↦ None | Some f ↦ Some (defined f) ])
    unfolding definition_of
    by_field o q = rw (ne_eqb name 0 n, q, definition_of)

    pub def_none : found ≡ None → 0 ≡ definition_code (definition_of (schema types fields) object name)
    unfolding definition_code
    def_none h = rw (by_field None (found_none (field_named types fields object name) e h))

    pub def_some : {row : ℕ} → found ≡ Some row → 2 + row ≡ definition_code (definition_of (schema types fields) object name)
    unfolding definition_code
    def_some {row = row'} h = rw (by_field (Some row') (found_some (field_named types fields object name) e h))

  module _ {found : Option ℕ} (e : found ≡ (field_named types fields object name)) {row : ℕ} (h : found ≡ Some row)
      (l : (type_at types object).fields.first + (type_at types object).fields.count ≤ most_fields) where
    field_below : row < 1024
    unfolding field_named rows_in
    field_below =
        let b = find_below (λ row. eqb (field_at fields row).name name) (type_at types object).fields.first (type_at types object).fields.count row
        (found_some (field_named types fields object name) e h) in
        omega arith

    pub field_fits : row < 65536
    field_fits = omega (arith, field_below)

    pub code_fits : 2 + row < 65536
    code_fits = omega (arith, field_below)

pub ruleset defining = (def_typename, def_none, def_some, field_fits, code_fits)

-- ---- what is expected of a field

module _ (refs types fields : List ℕ) (own ty : ℕ) where
  pub low_expected : own < 2 → (d : Option Definition) → own ≡ definition_code d
      → ◌≡◌ {A = Expected} (record { what = 0; of = 0 }) (expected_of refs types fields d ty)
  unfolding expected_of definition_code
  low_expected l None e = refl
  low_expected l (Some typename) e = refl
  low_expected l (Some (defined f)) e = absurd (omega arith)

  module _ (h : 2 ≤ own) {def : Field} (read : def ≡ field_at fields (own - 2)) where
    pub args_expected : 0 < def.arguments.count → (d : Option Definition) → own ≡ definition_code d
        → ◌≡◌ {A = Expected} (record { what = 0; of = 0 }) (expected_of refs types fields d ty)
    unfolding expected_of definition_code
    args_expected l None e = absurd (omega arith)
    args_expected l (Some typename) e = absurd (omega arith)
    args_expected l (Some (defined f)) e =
        let s : own - 2 ≡ f = omega arith in
        let t : def ≡ field_at fields f = rw (← s) read in
        let m : 0 < (field_at fields f).arguments.count = rw (← t) l in
        rw (lt-ltb 0 (field_at fields f).arguments.count m)

    pub plain_expected : {r : Expected} → def.arguments.count ≤ 0 → r ≡ expected_at types (type_ref_at refs ty) → (d : Option Definition) → own
        ≡ definition_code d
        → r ≡ expected_of refs types fields d ty
    unfolding expected_of definition_code
    plain_expected l q None e = absurd (omega arith)
    plain_expected l q (Some typename) e = absurd (omega arith)
    plain_expected l q (Some (defined f)) e =
        let s : own - 2 ≡ f = omega arith in
        let t : def ≡ field_at fields f = rw (← s) read in
        let m : (field_at fields f).arguments.count ≤ 0 = rw (← t) l in
        rw (le-ltb 0 (field_at fields f).arguments.count m) q

pub ruleset expecting = (low_expected, args_expected, plain_expected)
