-- What the views tell apart, written out once more as tables: which scalars take which values, and what a node and a literal are. A clause of a
-- view that is wrong would show in few runs; here it shows.
use Rattle.std.specs.Prelude.{List, [], ◌∷◌, Bool, true, false, ℕ}
use Rattle.rows.specs.Ascii.{ascii}
use Rattle.rows.specs.Names.{'Int, 'Float, 'String, 'Boolean, 'ID}
use Rattle.rows.specs.declared.layout.Range.{Range}
use Rattle.rows.specs.declared.strings.Text.{Text}
use Rattle.rows.specs.declared.json.Node.{Node}
use Rattle.rows.specs.declared.json.Node.TheVariants as node
use Rattle.rows.specs.declared.json.Literal.{Literal}
use Rattle.rows.specs.declared.json.Literal.TheVariants as literal
use Rattle.graphql.specs.Json.{Json, null, bool, natural, negative, float, string, array, object, no_item, no_member}
use Rattle.graphql.specs.Values.{NodeForm, is_null, is_bool, is_other, LiteralForm, null_given, variable, shaped, single, listed, keyed}
use Rattle.graphql.specs.Kit.{'Any}

-- the scalars Int, Float, String, Boolean, ID and a custom one
abbrev pub scalars : List ℕ
scalars = 'Int ∷ 'Float ∷ 'String ∷ 'Boolean ∷ 'ID ∷ 'Any ∷ []

-- a value, and whether each of them takes it
abbrev pub taken : List (Json × List Bool)
taken =
    (null, false ∷ false ∷ false ∷ false ∷ false ∷ true ∷ []) ∷
    (bool true, false ∷ false ∷ false ∷ true ∷ false ∷ true ∷ []) ∷
    (natural 2147483647, true ∷ false ∷ false ∷ false ∷ true ∷ true ∷ []) ∷
    (natural 2147483648, false ∷ false ∷ false ∷ false ∷ true ∷ true ∷ []) ∷
    (natural 9223372036854775807, false ∷ false ∷ false ∷ false ∷ true ∷ true ∷ []) ∷
    (natural 9223372036854775808, false ∷ false ∷ false ∷ false ∷ false ∷ true ∷ []) ∷
    (negative 2147483648, true ∷ false ∷ false ∷ false ∷ true ∷ true ∷ []) ∷
    (negative 2147483649, false ∷ false ∷ false ∷ false ∷ true ∷ true ∷ []) ∷
    (float (ascii "1.5"), false ∷ true ∷ false ∷ false ∷ false ∷ true ∷ []) ∷
    (string (ascii "a"), false ∷ false ∷ true ∷ false ∷ true ∷ true ∷ []) ∷
    (array no_item, false ∷ false ∷ false ∷ false ∷ false ∷ true ∷ []) ∷
    (object no_member, false ∷ false ∷ false ∷ false ∷ false ∷ true ∷ []) ∷
    []

abbrev some_text : Text
some_text = record { start = 0; len = 1 }

abbrev some_rows : Range
some_rows = record { first = 1; count = 2 }

-- a node, and what it is
abbrev pub node_forms : List (Node × NodeForm)
node_forms =
    (node.Null, is_null) ∷ (node.False, is_bool false) ∷ (node.True, is_bool true) ∷ (node.Natural 0 0, is_other) ∷ (node.Negative 1 0, is_other) ∷
    (node.Float some_text, is_other) ∷ (node.String some_text, is_other) ∷ (node.Array some_rows, is_other) ∷ (node.Object some_rows, is_other) ∷ []

-- a literal, and what it is
abbrev pub literal_forms : List (Literal × LiteralForm)
literal_forms =
    (literal.Null, null_given) ∷ (literal.False, shaped single) ∷ (literal.True, shaped single) ∷ (literal.Natural 0, shaped single) ∷
    (literal.Negative 1, shaped single) ∷ (literal.Float some_text, shaped single) ∷ (literal.String some_text, shaped single) ∷
    (literal.List some_rows, shaped (listed some_rows)) ∷ (literal.Object some_rows, shaped (keyed some_rows)) ∷
    (literal.Enum 7, shaped single) ∷ (literal.Variable 7, variable 7) ∷ []
