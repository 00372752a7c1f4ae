-- What document 01 asks of JSON nodes, literals and the values of variables. `names`, `nodes` and `literals` are numbers of rows
-- where a table is not meant.
use Rattle.std.specs.Prelude.{List, Bool, true, false, not, ◌&&◌, ℕ, ◌+◌, ◌*◌, ltb, leb}
use Rattle.rows.specs.Layout.{literal_width, variable_width}
use Rattle.rows.specs.Rows.{all}
use Rattle.rows.specs.Strings.{text_of, same}
use Rattle.rows.specs.Json.{node_at, node_key, literal_at, literal_key, variable_at}
use Rattle.rules.specs.Rows.{is_row, later, is_new, distinct}
use Rattle.rules.specs.Strings.{is_string, is_float_text}
use Rattle.rows.specs.declared.layout.Range.{Range}
use Rattle.rows.specs.declared.json.Node.{Node}
use Rattle.rows.specs.declared.json.Node.TheVariants as node
use Rattle.rows.specs.declared.json.Literal.{Literal}
use Rattle.rows.specs.declared.json.Literal.TheVariants as literal

-- "integer -2^63 to -1", by its magnitude, the low half first
abbrev pub is_negative : ℕ → ℕ → Bool
is_negative low high = leb 1 (low + 4294967296 * high) && leb (low + 4294967296 * high) 9223372036854775808

-- "null, booleans, integer 0 to 2^64 - 1, integer -2^63 to -1, float as its RFC 8259 spelling with a fraction or exponent, string,
-- array, object .. Children come later."
abbrev pub node_lawful : List ℕ → ℕ → ℕ → Node → Bool
node_lawful pool nodes row node.Null = true
node_lawful pool nodes row node.False = true
node_lawful pool nodes row node.True = true
node_lawful pool nodes row (node.Natural low high) = true
node_lawful pool nodes row (node.Negative low high) = is_negative low high
node_lawful pool nodes row (node.Float text) = is_float_text pool text
node_lawful pool nodes row (node.String text) = is_string pool text
node_lawful pool nodes row (node.Array rows) = later nodes row rows
node_lawful pool nodes row (node.Object rows) = later nodes row rows
node_lawful pool nodes row node.Unknown = false

abbrev pub node_row : List ℕ → ℕ → List ℕ → ℕ → Bool
node_row pool count nodes row = node_lawful pool count row (node_at nodes row)

-- "each string valid UTF-8": a key too
abbrev pub node_key_row : List ℕ → List ℕ → ℕ → Bool
node_key_row pool nodes row = is_string pool (node_key nodes row)

-- "object with distinct keys": the key of row first + i is the key of none of the i rows from first on
abbrev pub other_key : List ℕ → List ℕ → ℕ → ℕ → Bool
other_key pool nodes one two = not (same (text_of pool (node_key nodes one)) (text_of pool (node_key nodes two)))

unfoldable pub key_new : List ℕ → List ℕ → ℕ → ℕ → Bool
key_new pool nodes first i = all (λ j. other_key pool nodes (first + i) (first + j)) i

unfoldable pub keys_distinct : List ℕ → List ℕ → Range → Bool
keys_distinct pool nodes rows = all (key_new pool nodes rows.first) rows.count

-- the children of an object; no rows of any other node
abbrev pub object_rows : Node → Range
object_rows node.Null = record { first = 0; count = 0 }
object_rows node.False = record { first = 0; count = 0 }
object_rows node.True = record { first = 0; count = 0 }
object_rows (node.Natural low high) = record { first = 0; count = 0 }
object_rows (node.Negative low high) = record { first = 0; count = 0 }
object_rows (node.Float text) = record { first = 0; count = 0 }
object_rows (node.String text) = record { first = 0; count = 0 }
object_rows (node.Array rows) = record { first = 0; count = 0 }
object_rows (node.Object rows) = rows
object_rows node.Unknown = record { first = 0; count = 0 }

abbrev pub node_keys_differ : List ℕ → List ℕ → ℕ → Bool
node_keys_differ pool nodes row = keys_distinct pool nodes (object_rows (node_at nodes row))

-- "with a place each, as JSON nodes but integers from -2^31 to 2^31 - 1, and also enum name or variable"
abbrev pub literal_lawful : List ℕ → ℕ → ℕ → ℕ → Literal → Bool
literal_lawful pool names literals row literal.Null = true
literal_lawful pool names literals row literal.False = true
literal_lawful pool names literals row literal.True = true
literal_lawful pool names literals row (literal.Natural n) = ltb n 2147483648
literal_lawful pool names literals row (literal.Negative m) = leb 1 m && leb m 2147483648
literal_lawful pool names literals row (literal.Float text) = is_float_text pool text
literal_lawful pool names literals row (literal.String text) = is_string pool text
literal_lawful pool names literals row (literal.List rows) = later literals row rows
literal_lawful pool names literals row (literal.Object rows) = later literals row rows
literal_lawful pool names literals row (literal.Enum name) = is_row names name
literal_lawful pool names literals row (literal.Variable name) = is_row names name
literal_lawful pool names literals row literal.Unknown = false

-- a key is a name
abbrev pub literal_row : List ℕ → ℕ → ℕ → List ℕ → ℕ → Bool
literal_row pool names count literals row =
    is_row names (literal_key literals row) && literal_lawful pool names count row (literal_at literals row)

-- "object with distinct keys"
abbrev pub literal_parts : List ℕ → Literal → Bool
literal_parts literals literal.Null = true
literal_parts literals literal.False = true
literal_parts literals literal.True = true
literal_parts literals (literal.Natural n) = true
literal_parts literals (literal.Negative m) = true
literal_parts literals (literal.Float text) = true
literal_parts literals (literal.String text) = true
literal_parts literals (literal.List rows) = true
literal_parts literals (literal.Object rows) = distinct literals literal_width 4 rows
literal_parts literals (literal.Enum name) = true
literal_parts literals (literal.Variable name) = true
literal_parts literals literal.Unknown = true

abbrev pub literal_keys_differ : List ℕ → ℕ → Bool
literal_keys_differ literals row = literal_parts literals (literal_at literals row)

-- "Variable values, .. distinct names, each a JSON node"
abbrev pub variable_row : ℕ → ℕ → List ℕ → ℕ → Bool
variable_row names nodes variables row = is_row names (variable_at variables row).name && is_row nodes (variable_at variables row).node

abbrev pub variable_name_new : List ℕ → ℕ → Bool
variable_name_new variables row = is_new variables variable_width 0 0 row
