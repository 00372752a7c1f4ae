-- What the functions that write a node ensure, by the definition of a node's value and of a value's text.
use Rattle.std.specs.Prelude.{◌≡◌, Bool, true, false, List, [], ◌∷◌, ◌++◌, ℕ, zero, suc, ◌+◌, ◌≤◌, length}
use Rattle.std.specs.Prelude.{Option, Some, None, Result, Ok, Err}
use Rattle.rows.specs.Limits.{most_nodes}
use Rattle.rows.specs.Strings.{text_of}
use Rattle.rows.specs.Json.{node_at, node_key}
use Rattle.rows.specs.declared.json.Node.{Node}
use Rattle.rows.specs.declared.json.Node.TheVariants as node
use Rattle.tokens.specs.Escape.{quoted}
use Rattle.writing.specs.Wrote.{Writes}
use Rattle.codes.specs.Outcome.{too_far, code_of}
use Rattle.codes.specs.declared.outcome.Outcome.{Outcome}
use Rattle.graphql.specs.Run.{Choices, M, pure, halt}
use Rattle.graphql.specs.Json.{Json, print}
use Rattle.graphql.specs.Lookup.{rows_in}
use Rattle.graphql.specs.Values.{array_of, object_of, node_value}
use Rattle.values.specs.declared.node.Parts.{Parts}

-- the parts of a container, and of nothing else
abbrev pub shape_of : Node → Option Parts
shape_of node.Null = None
shape_of node.False = None
shape_of node.True = None
shape_of (node.Natural low high) = None
shape_of (node.Negative low high) = None
shape_of (node.Float text) = None
shape_of (node.String text) = None
shape_of (node.Array rows) = Some (record { keyed = false; rows = rows })
shape_of (node.Object rows) = Some (record { keyed = true; rows = rows })
shape_of node.Unknown = None

-- What the walk through nodes rests on, and lawful tables give: the parts of a container are among the first 4,096 rows, so that their numbers are
-- words.
pub record Parted (nodes : List ℕ) : Type 0 where
  pub within : (row : ℕ) (parts : Parts) → shape_of (node_at nodes row) ≡ Some parts → parts.rows.first + parts.rows.count ≤ most_nodes

-- ---- The text around the parts. The bytes: comma 44, colon 58, [ 91, ] 93, { 123, } 125.

-- what stands before the value of a part that has this key, if it has one
unfoldable pub label : (keyed : Bool) (key : List ℕ) → List ℕ
label false key = 44 ∷ []
label true key = 44 ∷ (quoted key ++ (58 ∷ []))

-- the key of a part, if the parts have keys
abbrev pub key_of : (keyed : Bool) (key : List ℕ) → Option (List ℕ)
key_of false key = None
key_of true key = Some key

-- the same label, by the key
abbrev pub label_of : Option (List ℕ) → List ℕ
label_of None = label false []
label_of (Some key) = label true key

abbrev pub left : Bool → ℕ
left false = 91
left true = 123

abbrev pub right : Bool → ℕ
right false = 93
right true = 125

-- ---- A value that was written

-- how a value ends: it is there, or the run stops; nothing is logged, and no choice is read
unfoldable pub ended : Result Json Outcome → M Json
ended (Ok j) = pure j
ended (Err o) = halt (code_of o)

-- the position after what was written; or why the run stops
abbrev pub Put : Type 0
Put = Result ℕ Outcome

-- the text of the value was written from `at` on, and the position is the one after it
pub record PutsText (j : Json) (before : List ℕ) (at : ℕ) (r : Put) (after : List ℕ) : Type 0 where
  pub end : ℕ
  pub is : r ≡ Ok end
  pub writes : Writes before after at end (print j)

-- it was given up: the buffer is as long as it was, and what stands in it is nobody's
pub record GaveUp (why : Outcome) (before : List ℕ) (r : Put) (after : List ℕ) : Type 0 where
  pub is : r ≡ Err why
  pub long : length after ≡ length before

abbrev pub Ends : Result Json Outcome → (before : List ℕ) (at : ℕ) (r : Put) (after : List ℕ) → Type 0
Ends (Ok j) before at r after = PutsText j before at r after
Ends (Err o) before at r after = GaveUp o before r after

-- what a call came to that was to write the value of `m`
pub record Puts (m : M Json) (before : List ℕ) (at : ℕ) (r : Put) (after : List ℕ) : Type 0 where
  pub value : Result Json Outcome
  pub is : (c : Choices) → m c ≡ ended value c
  pub put : Ends value before at r after

-- a container's value, by the kind of its parts, as the definition of a value has it
unfoldable pub container_of : (key : ℕ → List ℕ) (room : ℕ) → (ℕ → M Json) → (keyed : Bool) → List ℕ → M Json
container_of key room inside false rows = array_of room inside rows
container_of key room inside true rows = object_of room inside key rows

-- the same by the keys and the values of its parts, for which there is room for a container less
module _ (key : ℕ → List ℕ) (value : (room row : ℕ) → M Json) where
  unfoldable pub contained : (room : ℕ) → Parts → M Json
  contained zero parts = container_of key zero (λ part. halt too_far) parts.keyed (rows_in parts.rows)
  contained (suc room) parts = container_of key (suc room) (λ part. value room part) parts.keyed (rows_in parts.rows)

module _ (pool nodes : List ℕ) where
  -- the bytes of a part's key
  abbrev pub key_text : ℕ → List ℕ
  key_text row = text_of pool (node_key nodes row)

  abbrev pub container_value : (room : ℕ) → Parts → M Json
  container_value room parts = contained key_text (node_value pool nodes) room parts

  abbrev pub PutsContainer : (room : ℕ) → Parts → (before : List ℕ) (at : ℕ) (r : Put) (after : List ℕ) → Type 0
  PutsContainer room parts before at r after = Puts (container_value room parts) before at r after

  abbrev pub PutsNode : (room row : ℕ) (before : List ℕ) (at : ℕ) (r : Put) (after : List ℕ) → Type 0
  PutsNode room row before at r after = Puts (node_value pool nodes room row) before at r after

-- "Prove that two results allowed by it are equal": they are, and so are the buffers where the value is there. Where it is too far the
-- buffers are as long as each other, and what stands in them is left open.
abbrev pub PutNodeDetermined : Type 0
PutNodeDetermined =
    (pool nodes : List ℕ) (room row : ℕ) (before : List ℕ) (at : ℕ) (r r' : Put) (after after' : List ℕ)
    → PutsNode pool nodes room row before at r after → PutsNode pool nodes room row before at r' after'
    → (r ≡ r') × (length after ≡ length after') × ((end : ℕ) → r ≡ Ok end → after ≡ after')
