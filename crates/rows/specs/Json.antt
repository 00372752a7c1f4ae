-- JSON nodes, literals and the values of variables.
use Rattle.std.specs.Prelude.{List, cond, ℕ, eqb}
use Rattle.rows.specs.Layout.{node_width, literal_width, variable_width}
use Rattle.rows.specs.Rows.{cell}
use Rattle.rows.specs.declared.strings.Text.{Text}
use Rattle.rows.specs.declared.json.Node.{Node}
use Rattle.rows.specs.declared.json.Node.TheVariants as node
use Rattle.rows.specs.declared.json.Literal.{Literal}
use Rattle.rows.specs.declared.json.Literal.TheVariants as literal
use Rattle.rows.specs.declared.json.VariableValue.{VariableValue}

-- Nodes: kind, two words by kind, and the key of a child of an object.
abbrev pub node_of : ℕ → ℕ → ℕ → Node
node_of kind a b =
    cond (eqb kind 0) node.Null
    (cond (eqb kind 1) node.False
    (cond (eqb kind 2) node.True
    (cond (eqb kind 3) (node.Natural a b)
    (cond (eqb kind 4) (node.Negative a b)
    (cond (eqb kind 5) (node.Float (record { start = a; len = b }))
    (cond (eqb kind 6) (node.String (record { start = a; len = b }))
    (cond (eqb kind 7) (node.Array (record { first = a; count = b }))
    (cond (eqb kind 8) (node.Object (record { first = a; count = b }))
    node.Unknown))))))))

unfoldable pub node_at : List ℕ → ℕ → Node
node_at nodes row = node_of (cell nodes node_width row 0) (cell nodes node_width row 1) (cell nodes node_width row 2)

unfoldable pub node_key : List ℕ → ℕ → Text
node_key nodes row = record { start = cell nodes node_width row 3; len = cell nodes node_width row 4 }

-- Literals: kind, two words by kind, place, and the key of a child of an object.
abbrev pub literal_of : ℕ → ℕ → ℕ → Literal
literal_of kind a b =
    cond (eqb kind 0) literal.Null
    (cond (eqb kind 1) literal.False
    (cond (eqb kind 2) literal.True
    (cond (eqb kind 3) (literal.Natural a)
    (cond (eqb kind 4) (literal.Negative a)
    (cond (eqb kind 5) (literal.Float (record { start = a; len = b }))
    (cond (eqb kind 6) (literal.String (record { start = a; len = b }))
    (cond (eqb kind 7) (literal.List (record { first = a; count = b }))
    (cond (eqb kind 8) (literal.Object (record { first = a; count = b }))
    (cond (eqb kind 9) (literal.Enum a)
    (cond (eqb kind 10) (literal.Variable a)
    literal.Unknown))))))))))

unfoldable pub literal_at : List ℕ → ℕ → Literal
literal_at literals row = literal_of (cell literals literal_width row 0) (cell literals literal_width row 1) (cell literals literal_width row 2)

abbrev pub literal_place : List ℕ → ℕ → ℕ
literal_place literals row = cell literals literal_width row 3

abbrev pub literal_key : List ℕ → ℕ → ℕ
literal_key literals row = cell literals literal_width row 4

-- Variable values: name, node. "distinct names, each a JSON node"
unfoldable pub variable_at : List ℕ → ℕ → VariableValue
variable_at variables row = record { name = cell variables variable_width row 0; node = cell variables variable_width row 1 }
