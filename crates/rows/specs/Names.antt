-- The names, and the first twelve of them.
use Rattle.std.specs.Prelude.{List, [], ◌∷◌, ℕ}
use Prim.Native.String.{String}
use Rattle.rows.specs.Layout.{name_width}
use Rattle.rows.specs.Rows.{cell}
use Rattle.rows.specs.Strings.{text_of}
use Rattle.rows.specs.declared.strings.Text.{Text}

-- a row: start, length
unfoldable pub name_at : List ℕ → ℕ → Text
name_at names row = record { start = cell names name_width row 0; len = cell names name_width row 1 }

-- the bytes of a name
abbrev pub name_text : List ℕ → List ℕ → ℕ → List ℕ
name_text pool names row = text_of pool (name_at names row)

-- "Names 0 to 11 are `__typename`, `Int`, `Float`, `String`, `Boolean`, `ID`, `__schema`, `__type`, `fields`, `interfaces`,
-- `possibleTypes`, `inputFields`."
abbrev pub reserved : List String
reserved =
    "__typename" ∷ "Int" ∷ "Float" ∷ "String" ∷ "Boolean" ∷ "ID"
    ∷ "__schema" ∷ "__type" ∷ "fields" ∷ "interfaces" ∷ "possibleTypes" ∷ "inputFields" ∷ []

-- their rows
abbrev pub 'typename : ℕ
'typename = 0

abbrev pub 'Int : ℕ
'Int = 1

abbrev pub 'Float : ℕ
'Float = 2

abbrev pub 'String : ℕ
'String = 3

abbrev pub 'Boolean : ℕ
'Boolean = 4

abbrev pub 'ID : ℕ
'ID = 5

abbrev pub 'schema : ℕ
'schema = 6

abbrev pub 'type : ℕ
'type = 7

abbrev pub 'fields : ℕ
'fields = 8

abbrev pub 'interfaces : ℕ
'interfaces = 9

abbrev pub 'possibleTypes : ℕ
'possibleTypes = 10

abbrev pub 'inputFields : ℕ
'inputFields = 11
