-- What the tables say, by name: types and their parts, fragments, variables, the answer of a field. Each definition takes the tables that it
-- reads, as the row views do. Read it after Outcome.
use Rattle.std.specs.Prelude.{List, [], ◌∷◌, Bool, false, not, cond, ◌||◌, ℕ, zero, suc, eqb}
use Rattle.std.specs.Prelude.{Option, Some, None}
use Rattle.rows.specs.Layout.{type_width, fragment_width, variable_width}
use Rattle.rows.specs.Rows.{rows_of}
use Rattle.rows.specs.Strings.{same}
use Rattle.rows.specs.Names.{name_text}
use Rattle.rows.specs.Schema.{type_ref_at, type_at, member_at, field_at}
use Rattle.rows.specs.Document.{set_at, fragment_at}
use Rattle.rows.specs.Json.{variable_at}
use Rattle.rows.specs.Answers.{answer_name}
use Rattle.rows.specs.declared.layout.Range.{Range}
use Rattle.rows.specs.declared.schema.TypeRef.{TypeRef}
use Rattle.rows.specs.declared.schema.TypeRef.TheVariants as ref

-- ---- Searching rows

-- the rows first, first + 1, .., as many as count says
unfoldable pub rows_from : ℕ → ℕ → List ℕ
rows_from first zero = []
rows_from first (suc count) = first ∷ rows_from (suc first) count

unfoldable pub rows_in : Range → List ℕ
rows_in range = rows_from range.first range.count

-- the first row that passes a test
unfoldable pub find : (ℕ → Bool) → List ℕ → Option ℕ
find test [] = None
find test (row ∷ rest) = let later = find test rest in cond (test row) (Some row) later

unfoldable pub any : (ℕ → Bool) → List ℕ → Bool
any test [] = false
any test (row ∷ rest) = test row || any test rest

-- ---- The schema

unfoldable pub non_null_ref : TypeRef → Bool
non_null_ref (ref.Named name nullable) = not nullable
non_null_ref (ref.ListOf inner nullable) = not nullable
non_null_ref ref.Unknown = false

-- "non-null" of a type reference
unfoldable pub non_null : (refs : List ℕ) → ℕ → Bool
non_null refs ty = non_null_ref (type_ref_at refs ty)

-- the type of this name, if it is defined
unfoldable pub type_named : (types : List ℕ) → ℕ → Option ℕ
type_named types n = find (λ row. eqb (type_at types row).name n) (rows_from 0 (rows_of types type_width))

-- whether the name is one of the type's values, members or interfaces
unfoldable pub lists : (types members : List ℕ) → (type n : ℕ) → Bool
lists types members type n = any (λ row. eqb (member_at members row) n) (rows_in (type_at types type).members)

-- whether a string is the name of one of an enum's values
unfoldable pub has_value : (pool names types members : List ℕ) → (type : ℕ) → List ℕ → Bool
has_value pool names types members type s =
    any (λ row. same (name_text pool names (member_at members row)) s) (rows_in (type_at types type).members)

-- the field of this name in a type
unfoldable pub field_named : (types fields : List ℕ) → (type n : ℕ) → Option ℕ
field_named types fields type n = find (λ row. eqb (field_at fields row).name n) (rows_in (type_at types type).fields)

-- ---- The document and the values of variables

unfoldable pub fragment_named : (fragments : List ℕ) → ℕ → Option ℕ
fragment_named fragments n = find (λ row. eqb (fragment_at fragments row).name n) (rows_from 0 (rows_of fragments fragment_width))

unfoldable pub selections_of : (sets : List ℕ) → ℕ → List ℕ
selections_of sets set = rows_in (set_at sets set)

-- the row of the value of the variable of this name
unfoldable pub variable_named : (variables : List ℕ) → ℕ → Option ℕ
variable_named variables n = find (λ row. eqb (variable_at variables row).name n) (rows_from 0 (rows_of variables variable_width))

-- ---- The answers

-- the answer to a field of an object whose rows these are
unfoldable pub field_answer : (answers : List ℕ) → Range → ℕ → Option ℕ
field_answer answers rows n = find (λ row. eqb (answer_name answers row) n) (rows_in rows)
