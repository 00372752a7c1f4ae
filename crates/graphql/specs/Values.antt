-- Nodes as JSON values, and literals that convert part by part. A value in which too many containers are open is code 3. Read it after
-- Lookup.
use Rattle.std.specs.Prelude.{List, map, Bool, true, false, ℕ, zero, suc, ◌+◌, ◌*◌}
use Rattle.std.specs.Prelude.{Some}
use Rattle.rows.specs.Layout.{node_width}
use Rattle.rows.specs.Rows.{rows_of}
use Rattle.rows.specs.Strings.{text_of}
use Rattle.rows.specs.Names.{name_text}
use Rattle.rows.specs.Json.{node_at, node_key, literal_at, literal_key, variable_at}
use Rattle.rows.specs.declared.layout.Range.{Range}
use Rattle.rows.specs.declared.json.Node.{Node}
use Rattle.rows.specs.declared.json.Node.TheVariants as node
use Rattle.rows.specs.declared.json.Literal.{Literal}
use Rattle.rows.specs.declared.json.Literal.TheVariants as literal
use Rattle.codes.specs.Outcome.{too_far, variable_in_literal}
use Rattle.graphql.specs.Run.{M, pure, halt, in_order, ◌>>=◌}
use Rattle.graphql.specs.Json.{Json, null, bool, natural, negative, float, string, array, object, items, members}
use Rattle.graphql.specs.Lookup.{rows_in}

-- ---- Containers

-- Code 3: "33 open containers in a leaf or literal". A container is opened where there is room for one; where there is none left, nothing is
-- asked of what is inside.
unfoldable pub opened : {A : Type 0} → (room : ℕ) → M A → M A
opened zero m = halt too_far
opened (suc room) m = m

-- `inside` gives the value of a part, one container further in
module _ (room : ℕ) (inside : ℕ → M Json) where
  unfoldable pub array_of : List ℕ → M Json
  array_of rows = opened room (do
    js ← in_order inside rows
    pure (array (items js)))

  unfoldable pub object_of : (key : ℕ → List ℕ) → List ℕ → M Json
  object_of key rows = opened room (do
    js ← in_order inside rows
    pure (object (members (map key rows) (map Some js))))

-- ---- JSON nodes

-- what directives and arguments tell apart in a variable's value
pub data NodeForm : Type 0 where
  is_null : NodeForm
  is_bool : Bool → NodeForm
  is_other : NodeForm

unfoldable pub node_form : Node → NodeForm
node_form node.Null = is_null
node_form node.False = is_bool false
node_form node.True = is_bool true
node_form (node.Natural low high) = is_other
node_form (node.Negative low high) = is_other
node_form (node.Float text) = is_other
node_form (node.String text) = is_other
node_form (node.Array rows) = is_other
node_form (node.Object rows) = is_other
node_form node.Unknown = is_other

module _ (pool nodes : List ℕ) where
  unfoldable pub value_of : (room : ℕ) → (ℕ → M Json) → Node → M Json
  value_of room inside node.Null = pure null
  value_of room inside node.False = pure (bool false)
  value_of room inside node.True = pure (bool true)
  value_of room inside (node.Natural low high) = pure (natural (low + 4294967296 * high))
  value_of room inside (node.Negative low high) = pure (negative (low + 4294967296 * high))
  value_of room inside (node.Float text) = pure (float (text_of pool text))
  value_of room inside (node.String text) = pure (string (text_of pool text))
  value_of room inside (node.Array rows) = array_of room inside (rows_in rows)
  value_of room inside (node.Object rows) = object_of room inside (λ row. text_of pool (node_key nodes row)) (rows_in rows)
  value_of room inside node.Unknown = pure null

  -- a node as a value, in which so many containers may be open
  unfoldable pub node_value : (room row : ℕ) → M Json
  node_value zero row = value_of zero (λ part. halt too_far) (node_at nodes row)
  node_value (suc room) row = value_of (suc room) (λ part. node_value room part) (node_at nodes row)

  -- "A variable's value is used as it stands": the containers within it do not count here. Children come later, so that it is not
  -- deeper than there are nodes.
  unfoldable pub variable_value : (variables : List ℕ) → ℕ → M Json
  variable_value variables v = node_value (suc (rows_of nodes node_width)) (variable_at variables v).node

-- ---- Literals

-- what coercion tells apart in a literal: null, a variable, or what is converted, which may be a list or an object
pub data Shape : Type 0 where
  single : Shape
  listed : Range → Shape
  keyed : Range → Shape

pub data LiteralForm : Type 0 where
  null_given : LiteralForm
  variable : ℕ → LiteralForm
  shaped : Shape → LiteralForm

unfoldable pub literal_form : Literal → LiteralForm
literal_form literal.Null = null_given
literal_form literal.False = shaped single
literal_form literal.True = shaped single
literal_form (literal.Natural n) = shaped single
literal_form (literal.Negative m) = shaped single
literal_form (literal.Float text) = shaped single
literal_form (literal.String text) = shaped single
literal_form (literal.List rows) = shaped (listed rows)
literal_form (literal.Object rows) = shaped (keyed rows)
literal_form (literal.Enum name) = shaped single
literal_form (literal.Variable name) = variable name
literal_form literal.Unknown = shaped single

module _ (pool names literals : List ℕ) where
  -- "At a defined type that is no input object a literal converts part by part, enum names to strings." Code 5: "a variable is
  -- reached inside a literal that converts part by part".
  unfoldable pub parts_of : (room : ℕ) → (ℕ → M Json) → Literal → M Json
  parts_of room inside literal.Null = pure null
  parts_of room inside literal.False = pure (bool false)
  parts_of room inside literal.True = pure (bool true)
  parts_of room inside (literal.Natural n) = pure (natural n)
  parts_of room inside (literal.Negative m) = pure (negative m)
  parts_of room inside (literal.Float text) = pure (float (text_of pool text))
  parts_of room inside (literal.String text) = pure (string (text_of pool text))
  parts_of room inside (literal.List rows) = array_of room inside (rows_in rows)
  parts_of room inside (literal.Object rows) = object_of room inside (λ row. name_text pool names (literal_key literals row)) (rows_in rows)
  parts_of room inside (literal.Enum name) = pure (string (name_text pool names name))
  parts_of room inside (literal.Variable name) = halt variable_in_literal
  parts_of room inside literal.Unknown = pure null

  -- a literal converted part by part, in which so many containers may be open
  unfoldable pub part_by_part : (room row : ℕ) → M Json
  part_by_part zero row = parts_of zero (λ part. halt too_far) (literal_at literals row)
  part_by_part (suc room) row = parts_of (suc room) (λ part. part_by_part room part) (literal_at literals row)
