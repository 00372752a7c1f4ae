-- The data of a run as a tree, and its text. A null that no resolver answered, `nulled`, took the place of something that failed; one that a
-- resolver answered is a leaf. Read it after Json.
use Rattle.std.specs.Prelude.{List, [], ◌∷◌, ◌++◌, ℕ}
use Rattle.tokens.specs.Escape.{quoted}
use Rattle.tokens.specs.Literal.{null_name}
use Rattle.writing.specs.Wrote.{bracketed}
use Rattle.graphql.specs.Json.{Json, print}

mutual
  pub data Data : Type 0 where
    nulled : Data
    leaf : Json → Data
    list : Entries → Data
    object : Fields → Data

  pub data Entries : Type 0 where
    no_entry : Entries
    entry : Data → Entries → Entries

  pub data Fields : Type 0 where
    no_field : Fields
    field : List ℕ → Data → Fields → Fields

-- an entry of a list or a field of an object, which may be left out
pub data Val : Type 0 where
  absent : Val
  val : Data → Val

-- the entries that are not left out
unfoldable pub entries : List Val → Entries
entries [] = no_entry
entries (absent ∷ vs) = entries vs
entries (val d ∷ vs) = entry d (entries vs)

-- the fields that are not left out, each under its key
unfoldable pub fields : List (List ℕ) → List Val → Fields
fields [] vs = no_field
fields (k ∷ ks) [] = no_field
fields (k ∷ ks) (absent ∷ vs) = fields ks vs
fields (k ∷ ks) (val d ∷ vs) = field k d (fields ks vs)

-- RFC 8259, as `print` has it
unfoldable mutual
  pub print_data : Data → List ℕ
  print_data nulled = null_name
  print_data (leaf j) = print j
  print_data (list es) = bracketed 91 93 (print_entries es)
  print_data (object fs) = bracketed 123 125 (print_fields fs)

  pub print_entries : Entries → List ℕ
  print_entries no_entry = []
  print_entries (entry d es) = 44 ∷ (print_data d ++ print_entries es)

  pub print_fields : Fields → List ℕ
  print_fields no_field = []
  print_fields (field k d fs) = 44 ∷ (quoted k ++ (58 ∷ (print_data d ++ print_fields fs)))
