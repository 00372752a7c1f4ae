-- What is asked of a literal or a node where it stands: its sort at a type, and the bytes of a string.
use Rattle.std.specs.Prelude.{Bool, true, false, cond, List, [], ℕ}
use Rattle.std.specs.Prelude.{Option, Some, None}
use Rattle.rows.specs.Schema.{type_ref_at, type_at}
use Rattle.rows.specs.Json.{literal_at}
use Rattle.rows.specs.declared.schema.TypeRef.{TypeRef}
use Rattle.rows.specs.declared.schema.TypeRef.TheVariants as ref
use Rattle.graphql.specs.Json.{Sort, a_null, a_container}
use Rattle.graphql.specs.Lookup.{type_named}
use Rattle.graphql.specs.Values.{LiteralForm, null_given, variable, shaped, literal_form}
use Rattle.graphql.specs.Coerce.{is_input_object}
use Rattle.values.specs.Literals.{literal_sort}

-- ---- The sort of a literal at a type

-- whether a literal that is no null becomes a container there; of a type that is not defined it is not asked
unfoldable pub named_container : (types : List ℕ) → Option ℕ → Bool
named_container types None = false
named_container types (Some type) = is_input_object (type_at types type).kind

unfoldable pub is_container : (types : List ℕ) → TypeRef → Bool
is_container types (ref.Named name nullable) = named_container types (type_named types name)
is_container types (ref.ListOf inner nullable) = true
is_container types ref.Unknown = true

-- a null stays null; of a variable it is not asked
unfoldable pub sort_of_form : LiteralForm → (container : Bool) → (own : Sort) → Sort
sort_of_form null_given container own = a_null
sort_of_form (variable name) container own = cond container a_container own
sort_of_form (shaped s) container own = cond container a_container own

unfoldable pub coerced_sort : (refs types literals : List ℕ) → (ty row : ℕ) → Sort
coerced_sort refs types literals ty row =
    sort_of_form (literal_form (literal_at literals row)) (is_container types (type_ref_at refs ty)) (literal_sort (literal_at literals row))

-- ---- The bytes of a string, and none of what is no string

unfoldable pub bytes_of : Option (List ℕ) → List ℕ
bytes_of None = []
bytes_of (Some s) = s
