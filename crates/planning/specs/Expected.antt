-- What is expected at a type, where a value of that type needs no care: a scalar, an enum, an object, or a list.
use Rattle.std.specs.Prelude.{List, Bool, cond, ℕ, ◌+◌, ◌≤◌, ◌<◌, ltb}
use Rattle.std.specs.Prelude.{Option, Some, None}
use Rattle.rows.specs.Layout.{type_width}
use Rattle.rows.specs.Limits.{most_types}
use Rattle.rows.specs.Rows.{rows_of}
use Rattle.rows.specs.Schema.{type_ref_at, type_at, field_at}
use Rattle.rows.specs.declared.schema.TypeRef.{TypeRef}
use Rattle.rows.specs.declared.schema.TypeRef.TheVariants as ref
use Rattle.rows.specs.declared.schema.TypeKind.{TypeKind}
use Rattle.rows.specs.declared.schema.TypeKind.TheVariants as kind
use Rattle.graphql.specs.Lookup.{type_named}
use Rattle.graphql.specs.Complete.{Definition, typename, defined}
use Rattle.planning.specs.declared.expected.Expected.{Expected}

-- this, and 8 more where null may stand there
abbrev pub with' : Bool → ℕ → ℕ → Expected
with' nullable what of = record { what = cond nullable (what + 8) what; of = of }

abbrev pub care : Expected
care = record { what = 0; of = 0 }

unfoldable pub of_kind : (nullable : Bool) (name row : ℕ) → TypeKind → Expected
of_kind nullable name row kind.Scalar = with' nullable 1 name
of_kind nullable name row kind.Enum = with' nullable 2 row
of_kind nullable name row kind.Object = with' nullable 3 row
of_kind nullable name row kind.Interface = care
of_kind nullable name row kind.Union = care
of_kind nullable name row kind.InputObject = care
of_kind nullable name row kind.Unknown = care

-- at a type of this name
unfoldable pub expected_named : (types : List ℕ) (name : ℕ) (nullable : Bool) → Option ℕ → Expected
expected_named types name nullable None = care
expected_named types name nullable (Some row) = of_kind nullable name row (type_at types row).kind

unfoldable pub expected_at : (types : List ℕ) → TypeRef → Expected
expected_at types (ref.Named name nullable) = expected_named types name nullable (type_named types name)
expected_at types (ref.ListOf inner nullable) = with' nullable 4 inner
expected_at types ref.Unknown = care

-- of a field that is defined and has no arguments
unfoldable pub expected_of : (refs types fields : List ℕ) → Option Definition → (ty : ℕ) → Expected
expected_of refs types fields None ty = care
expected_of refs types fields (Some typename) ty = care
expected_of refs types fields (Some (defined f)) ty =
    cond (ltb 0 (field_at fields f).arguments.count) care (expected_at types (type_ref_at refs ty))

-- ---- What the tables give

unfoldable pub ref_of : TypeRef → ℕ
ref_of (ref.Named name nullable) = name
ref_of (ref.ListOf inner nullable) = inner
ref_of ref.Unknown = 0

-- what a type reference names, and the number of a type, fit 16 bits
pub record Referred (refs types : List ℕ) : Type 0 where
  pub small : (ty : ℕ) → ref_of (type_ref_at refs ty) < 65536
  pub few : rows_of types type_width ≤ most_types
