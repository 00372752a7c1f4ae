-- What the functions that read and write a literal ensure, by the definition of its conversion part by part.
use Rattle.std.specs.Prelude.{◌≡◌, true, false, List, ℕ, ◌+◌, ◌≤◌, length}
use Rattle.std.specs.Prelude.{Ok}
use Rattle.rows.specs.Limits.{most_literals}
use Rattle.rows.specs.Strings.{text_of}
use Rattle.rows.specs.Names.{name_text}
use Rattle.rows.specs.Json.{literal_at, literal_key}
use Rattle.rows.specs.declared.layout.Range.{Range}
use Rattle.rows.specs.declared.json.Literal.{Literal}
use Rattle.rows.specs.declared.json.Literal.TheVariants as literal
use Rattle.graphql.specs.Run.{Log, Choices, M, done}
use Rattle.graphql.specs.Json.{Json, null, bool, natural, negative, float, string, sort_of}
use Rattle.graphql.specs.Json as defined
use Rattle.graphql.specs.Values.{part_by_part}
use Rattle.values.specs.Put.{Put, Puts, contained}
use Rattle.values.specs.declared.node.Parts.{Parts}

-- the value of a literal that is no container and no variable; null for those, of which it is not asked
unfoldable pub plain_literal : (pool names : List ℕ) → Literal → Json
plain_literal pool names literal.Null = null
plain_literal pool names literal.False = bool false
plain_literal pool names literal.True = bool true
plain_literal pool names (literal.Natural n) = natural n
plain_literal pool names (literal.Negative m) = negative m
plain_literal pool names (literal.Float text) = float (text_of pool text)
plain_literal pool names (literal.String text) = string (text_of pool text)
plain_literal pool names (literal.List rows) = null
plain_literal pool names (literal.Object rows) = null
plain_literal pool names (literal.Enum name) = string (name_text pool names name)
plain_literal pool names (literal.Variable name) = null
plain_literal pool names literal.Unknown = null

-- the sort of a literal's value; null for a variable, which has none here
abbrev pub literal_sort : Literal → defined.Sort
literal_sort literal.Null = defined.a_null
literal_sort literal.False = defined.a_boolean
literal_sort literal.True = defined.a_boolean
literal_sort (literal.Natural n) = sort_of (natural n)
literal_sort (literal.Negative m) = sort_of (negative m)
literal_sort (literal.Float text) = defined.a_float
literal_sort (literal.String text) = defined.a_string
literal_sort (literal.List rows) = defined.a_container
literal_sort (literal.Object rows) = defined.a_container
literal_sort (literal.Enum name) = defined.a_string
literal_sort (literal.Variable name) = defined.a_null
literal_sort literal.Unknown = defined.a_null

-- it is the sort of the value that the definition gives the literal, where it gives one, whatever room there is
abbrev pub LiteralSorted : Type 0
LiteralSorted =
    (pool names literals : List ℕ) (room row : ℕ) (j : Json) (log : Log) (c c' : Choices) → part_by_part pool names literals room row c ≡ done j log c'
    → literal_sort (literal_at literals row) ≡ sort_of j

-- What the walk through literals rests on, and lawful tables give: the parts of a container are among the first 1,024 rows, so that their numbers
-- are words.
pub record LiteralsParted (literals : List ℕ) : Type 0 where
  pub of_list : (row : ℕ) (rows : Range) → literal_at literals row ≡ literal.List rows → rows.first + rows.count ≤ most_literals
  pub of_object : (row : ℕ) (rows : Range) → literal_at literals row ≡ literal.Object rows → rows.first + rows.count ≤ most_literals

-- ---- A literal that was written

module _ (pool names literals : List ℕ) where
  -- the bytes of a part's key
  abbrev pub literal_key_text : ℕ → List ℕ
  literal_key_text row = name_text pool names (literal_key literals row)

  abbrev pub parts_value : (room : ℕ) → Parts → M Json
  parts_value room parts = contained literal_key_text (part_by_part pool names literals) room parts

  abbrev pub PutsParts : (room : ℕ) → Parts → (before : List ℕ) (at : ℕ) (r : Put) (after : List ℕ) → Type 0
  PutsParts room parts before at r after = Puts (parts_value room parts) before at r after

  abbrev pub PutsLiteral : (room row : ℕ) (before : List ℕ) (at : ℕ) (r : Put) (after : List ℕ) → Type 0
  PutsLiteral room row before at r after = Puts (part_by_part pool names literals room row) before at r after

-- Two results that the contract allows are equal, and so are the buffers where the value is there; where it is not they are as long as each other.
abbrev pub PutLiteralDetermined : Type 0
PutLiteralDetermined =
    (pool names literals : List ℕ) (room row : ℕ) (before : List ℕ) (at : ℕ) (r r' : Put) (after after' : List ℕ)
    → PutsLiteral pool names literals room row before at r after → PutsLiteral pool names literals room row before at r' after'
    → (r ≡ r') × (length after ≡ length after') × ((end : ℕ) → r ≡ Ok end → after ≡ after')
