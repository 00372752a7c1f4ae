-- What a node shows without its parts: the value of one that is no container, and the sort of any.
use Rattle.std.specs.Prelude.{◌≡◌, true, false, List, ℕ, ◌+◌, ◌*◌}
use Rattle.rows.specs.Strings.{text_of}
use Rattle.rows.specs.Json.{node_at}
use Rattle.rows.specs.declared.json.Node.{Node}
use Rattle.rows.specs.declared.json.Node.TheVariants as node
use Rattle.graphql.specs.Json.{Json, null, bool, natural, negative, float, string, sort_of}
use Rattle.graphql.specs.Json as defined
use Rattle.graphql.specs.Run.{Log, Choices, done}
use Rattle.graphql.specs.Values.{node_value}
use Rattle.values.specs.declared.sort.Sort.{Sort}
use Rattle.values.specs.declared.sort.Sort.TheVariants as sort

-- the value of a node that is no container; null for a container, of which it is not asked
unfoldable pub plain_value : (pool : List ℕ) → Node → Json
plain_value pool node.Null = null
plain_value pool node.False = bool false
plain_value pool node.True = bool true
plain_value pool (node.Natural low high) = natural (low + 4294967296 * high)
plain_value pool (node.Negative low high) = negative (low + 4294967296 * high)
plain_value pool (node.Float text) = float (text_of pool text)
plain_value pool (node.String text) = string (text_of pool text)
plain_value pool (node.Array rows) = null
plain_value pool (node.Object rows) = null
plain_value pool node.Unknown = null

-- the sort of a node's value
abbrev pub node_sort : Node → defined.Sort
node_sort node.Null = defined.a_null
node_sort node.False = defined.a_boolean
node_sort node.True = defined.a_boolean
node_sort (node.Natural low high) = sort_of (natural (low + 4294967296 * high))
node_sort (node.Negative low high) = sort_of (negative (low + 4294967296 * high))
node_sort (node.Float text) = defined.a_float
node_sort (node.String text) = defined.a_string
node_sort (node.Array rows) = defined.a_container
node_sort (node.Object rows) = defined.a_container
node_sort node.Unknown = defined.a_null

-- it is the sort of the value that the definition gives the node, whatever room there is
abbrev pub NodeSorted : Type 0
NodeSorted =
    (pool nodes : List ℕ) (room row : ℕ) (j : Json) (log : Log) (c c' : Choices) → node_value pool nodes room row c ≡ done j log c'
    → node_sort (node_at nodes row) ≡ sort_of j

-- how the code says what the definition says
abbrev pub said : defined.Sort → Sort
said defined.a_null = sort.Null
said defined.a_boolean = sort.Boolean
said defined.an_int = sort.Int
said defined.a_long = sort.Long
said defined.a_huge = sort.Huge
said defined.a_float = sort.Float
said defined.a_string = sort.String
said defined.a_container = sort.Container
