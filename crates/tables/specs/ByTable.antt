-- The rules as the check looks at them: how long the tables are, and then table by table, all that concerns one row together. That this is
-- `rows_lawful` is proved; no public contract cites it.
use Rattle.std.specs.Prelude.{◌≡◌, Bool, true, false, not, ◌&&◌, ◌||◌, List, [], ◌∷◌, ℕ, ◌≤◌, ◌<◌, length, get_or, ltb, eqb}
use Rattle.rows.specs.Layout.{name_width, type_ref_width, type_width, member_width, field_width, argument_width, set_width, selection_width, given_width, fragment_width, node_width, literal_width, variable_width, answer_width}
use Rattle.rows.specs.Limits.{most_selections}
use Rattle.rows.specs.Rows.{all, cell, rows_of}
use Rattle.rules.specs.Names.{name_spelled, name_reserved, name_new}
use Rattle.rules.specs.Schema.{type_ref_row, type_row, type_parts, type_name_new, member_row, field_row, fields_differ, argument_row, arguments_differ, root_type}
use Rattle.rules.specs.Document.{set_row, selection_row, given_row, given_differ, fragment_row, fragment_name_new, child_larger, child_sets_larger, selection_owns_alone, fragment_owns_alone}
use Rattle.rules.specs.Json.{node_row, node_key_row, node_keys_differ, literal_row, literal_keys_differ, variable_row, variable_name_new}
use Rattle.rules.specs.Answers.{answer_row, answer_names_differ, root_answer}
use Rattle.tables.specs.Tables.{Tables, name_count, ref_count, literal_count}
use Rattle.tables.specs.Rules.{size_holds}
use Rattle.tables.specs.declared.rule.SizeRule.TheVariants as size
use Rattle.std.specs.Prelude.{Option, Some, None}

-- every test of a list passes
unfoldable pub conj : List Bool → Bool
conj [] = true
conj (b ∷ []) = b
conj (b ∷ c ∷ bs) = b && conj (c ∷ bs)

abbrev pub schema_sizes : Tables → List Bool
schema_sizes T =
    size_holds size.Pool T ∷ size_holds size.Names T ∷ size_holds size.TypeRefs T ∷ size_holds size.Types T ∷ size_holds size.Fields T
    ∷ size_holds size.Arguments T ∷ []

abbrev pub document_sizes : Tables → List Bool
document_sizes T = size_holds size.Sets T ∷ size_holds size.Selections T ∷ size_holds size.Given T ∷ size_holds size.Fragments T ∷ []

abbrev pub values_sizes : Tables → List Bool
values_sizes T = size_holds size.Nodes T ∷ size_holds size.Literals T ∷ size_holds size.Variables T ∷ size_holds size.Answers T ∷ []

-- One row. Of other tables most rules ask how many rows they have; `names`, `refs` .. are these numbers.
unfoldable pub name_holds : List ℕ → List ℕ → ℕ → Bool
name_holds pool names row = name_spelled pool names row && name_reserved pool names row

unfoldable pub field_holds : ℕ → ℕ → ℕ → List ℕ → List ℕ → ℕ → Bool
field_holds names refs literals fields arguments row =
    field_row names refs (rows_of arguments argument_width) literals fields row && arguments_differ fields arguments row

unfoldable pub type_holds : ℕ → ℕ → List ℕ → List ℕ → ℕ → Bool
type_holds names members types fields row =
    (type_row names members (rows_of fields field_width) types row && type_parts types row) && fields_differ types fields row

unfoldable pub selection_holds : ℕ → ℕ → ℕ → List ℕ → List ℕ → ℕ → Bool
selection_holds names refs sets selections given row =
    selection_row names refs sets (rows_of given given_width) selections row && given_differ selections given row

unfoldable pub set_holds : List ℕ → List ℕ → ℕ → Bool
set_holds sets selections row = set_row (rows_of selections selection_width) sets row && child_sets_larger sets selections row

unfoldable pub node_holds : List ℕ → ℕ → List ℕ → ℕ → Bool
node_holds pool count nodes row = node_key_row pool nodes row && node_row pool count nodes row

unfoldable pub literal_holds : List ℕ → ℕ → ℕ → List ℕ → ℕ → Bool
literal_holds pool names count literals row = literal_row pool names count literals row && literal_keys_differ literals row

-- Tables by chapters.
abbrev pub schema_tests : List ℕ → List ℕ → List ℕ → List ℕ → List ℕ → List ℕ → List ℕ → ℕ → ℕ → List Bool
schema_tests pool names refs types members fields arguments literals root =
    all (name_holds pool names) (rows_of names name_width)
    ∷ all (name_new pool names) (rows_of names name_width)
    ∷ all (type_ref_row (rows_of names name_width) refs) (rows_of refs type_ref_width)
    ∷ all (member_row (rows_of names name_width) members) (rows_of members member_width)
    ∷ all (argument_row (rows_of names name_width) (rows_of refs type_ref_width) literals arguments) (rows_of arguments argument_width)
    ∷ all (field_holds (rows_of names name_width) (rows_of refs type_ref_width) literals fields arguments) (rows_of fields field_width)
    ∷ all (type_holds (rows_of names name_width) (rows_of members member_width) types fields) (rows_of types type_width)
    ∷ all (type_name_new types) (rows_of types type_width)
    ∷ root_type types root
    ∷ []

abbrev pub document_tests : ℕ → ℕ → List ℕ → List ℕ → List ℕ → List ℕ → ℕ → List Bool
document_tests names refs sets selections given fragments literals =
    all (given_row names literals given) (rows_of given given_width)
    ∷ all (selection_holds names refs (rows_of sets set_width) selections given) (rows_of selections selection_width)
    ∷ all (fragment_row names (rows_of sets set_width) fragments) (rows_of fragments fragment_width)
    ∷ all (fragment_name_new fragments) (rows_of fragments fragment_width)
    ∷ (all (selection_owns_alone selections) (rows_of selections selection_width) && all (fragment_owns_alone selections fragments) (rows_of fragments fragment_width))
    ∷ all (set_holds sets selections) (rows_of sets set_width)
    ∷ []

abbrev pub values_tests : List ℕ → ℕ → List ℕ → List ℕ → List ℕ → List ℕ → List Bool
values_tests pool names nodes literals variables answers =
    (all (node_holds pool (rows_of nodes node_width) nodes) (rows_of nodes node_width) && all (node_keys_differ pool nodes) (rows_of nodes node_width))
    ∷ all (literal_holds pool names (rows_of literals literal_width) literals) (rows_of literals literal_width)
    ∷ all (variable_row names (rows_of nodes node_width) variables) (rows_of variables variable_width)
    ∷ all (variable_name_new variables) (rows_of variables variable_width)
    ∷ (all (answer_row names (rows_of nodes node_width) (rows_of answers answer_width) answers) (rows_of answers answer_width) && all (answer_names_differ answers) (rows_of answers answer_width))
    ∷ root_answer answers
    ∷ []

-- Everything that the check looks at.
unfoldable pub by_table : Tables → Bool
by_table T =
    (conj (schema_sizes T) && (conj (document_sizes T) && conj (values_sizes T)))
    && (conj (schema_tests T.pool T.names T.refs T.types T.members T.fields T.arguments (literal_count T) T.root)
    && (conj (document_tests (name_count T) (ref_count T) T.sets T.selections T.given T.fragments (literal_count T))
    && conj (values_tests T.pool (name_count T) T.nodes T.literals T.variables T.answers)))

-- What is kept on the way.
-- what was seen of all rows: nothing where the first test fails at one, and otherwise whether the second is known to pass at each
abbrev pub Looked : (holds is_plain : ℕ → Bool) → ℕ → Option Bool → Type 0
Looked holds is_plain count None = all holds count ≡ false
Looked holds is_plain count (Some plain) = (all holds count ≡ true) × (plain ≡ true → all is_plain count ≡ true)

-- an answer that has fewer than two names to compare
abbrev pub plain_answer : List ℕ → ℕ → Bool
plain_answer answers row = not (eqb (cell answers answer_width row 0) 4) || ltb (cell answers answer_width row 4) 2

-- For each selection 0, or a later one: those from it up to that were looked at in this set or a larger one, and their child sets are
-- larger than this one.
pub record Skips (selections : List ℕ) (set : ℕ) (skips : List ℕ) : Type 0 where
  pub room : length skips ≡ 2049
  pub low : (i : ℕ) → get_or skips i 0 ≤ most_selections
  pub ahead : (i : ℕ) → 0 < get_or skips i 0 → i < get_or skips i 0
  pub larger : (i j : ℕ) → i ≤ j → j < get_or skips i 0 → child_larger selections set j ≡ true

-- the child sets from a selection up to another are larger than the set
pub record LargerUpTo (selections : List ℕ) (set from end : ℕ) : Type 0 where
  pub low : from ≤ end
  pub high : end ≤ most_selections
  pub larger : (j : ℕ) → from ≤ j → j < end → child_larger selections set j ≡ true
