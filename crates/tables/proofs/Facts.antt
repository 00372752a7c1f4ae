-- What lawful tables give, by name: how many rows there are, and what is known of each. Assumes nothing.
use mathlib.Core.Path.{◌≡◌}
use mathlib.Core.Bool.{Bool, true, false, not, ◌&&◌}
use mathlib.Core.List.{List}
use Prim.Native.Nat.{ℕ, ◌*◌, ◌/◌, ◌%◌, ◌≤◌, ◌<◌}
use native.Mathlib.Omega.{arith}
use borrow.Author.Tests.{leb-true, eqb-true}
use lib.ListN.{length}
use lib.Dec.{eqb, leb}
use Rattle.rows.specs.Layout.{name_width, type_ref_width, type_width, field_width, argument_width, set_width, selection_width, given_width, fragment_width, node_width, literal_width, variable_width, answer_width}
use Rattle.rows.specs.Limits.{most_bytes, least_names, most_names, most_type_refs, most_types, most_fields, most_arguments, most_selections, most_fragments, most_nodes, most_literals, most_variables, most_answers, most_rows}
use Rattle.rows.specs.Rows.{rows_of}
use Rattle.rules.specs.Rows.{counted}
use Rattle.rules.specs.Names.{name_spelled, name_reserved, name_new}
use Rattle.rules.specs.Schema.{type_ref_row, type_row, type_parts, type_name_new, member_row, field_row, fields_differ, argument_row, arguments_differ, root_type}
use Rattle.rules.specs.Document.{set_row, selection_row, given_row, given_differ, fragment_row, fragment_name_new, child_sets_larger, selection_owns_alone, fragment_owns_alone}
use Rattle.rules.specs.Json.{node_row, node_key_row, node_keys_differ, literal_row, literal_keys_differ, variable_row, variable_name_new}
use Rattle.rules.specs.Answers.{answer_row, answer_names_differ, root_answer}
use Rattle.tables.specs.Tables.{Tables, name_count, ref_count, type_count, member_count, field_count, argument_count, set_count, selection_count, given_count, fragment_count, node_count, literal_count, variable_count, answer_count}
use Rattle.tables.specs.Rules.{rows_lawful, rows_for, holds_at}
use Rattle.tables.specs.Defaults.{defaults_closed}
use Rattle.tables.specs.Marking.{Nested, Defaulted}
use Rattle.tables.specs.Lawful.{lawful}
use Rattle.tables.specs.declared.rule.Rule.{Rule}
use Rattle.tables.specs.declared.rule.Rule.TheVariants.{Size, Schema, Document, Value}
use Rattle.tables.specs.declared.rule.SizeRule.TheVariants as size
use Rattle.tables.specs.declared.rule.SchemaRule.TheVariants as schema
use Rattle.tables.specs.declared.rule.DocumentRule.TheVariants as document
use Rattle.tables.specs.declared.rule.ValueRule.TheVariants as value
use Rattle.rows.proofs.Every.{and_left, and_right, verified}
use Rattle.tables.proofs.Lawful.{holds_at_lem}
use Rattle.tables.proofs.Nested.{literal_parts_lem, field_default_lem, argument_default_lem}

module _ (width least most : ℕ) (t : List ℕ) (h : counted width least most t ≡ true) where
  sized : (leb least (length t / width) && leb (length t / width) most) ≡ true
  sized = and_right (eqb (length t % width) 0) (leb least (length t / width) && leb (length t / width) most) h

  -- whole rows, at least so many and at most so many
  pub whole : length t % width ≡ 0
  whole = eqb-true (length t % width) 0 (and_left (eqb (length t % width) 0) (leb least (length t / width) && leb (length t / width) most) h)

  pub at_least : least ≤ length t / width
  at_least = leb-true least (length t / width) (and_left (leb least (length t / width)) (leb (length t / width) most) sized)

  pub at_most : length t / width ≤ most
  at_most = leb-true (length t / width) most (and_right (leb least (length t / width)) (leb (length t / width) most) sized)

  pub few : rows_of t width ≤ most
  unfolding rows_of
  few = omega (arith, at_most)

  enough : least ≤ most_rows → least ≤ rows_of t width
  unfolding rows_of
  enough l = omega (arith, at_least)

-- every rule that speaks of rows holds
pub rows_lawful_lem : (T : Tables) → lawful T ≡ true → rows_lawful T ≡ true
unfolding lawful
rows_lawful_lem T h = and_left (rows_lawful T) (defaults_closed T.fields T.arguments T.literals) h

pub defaults_closed_lem : (T : Tables) → lawful T ≡ true → defaults_closed T.fields T.arguments T.literals ≡ true
unfolding lawful
defaults_closed_lem T h = and_right (rows_lawful T) (defaults_closed T.fields T.arguments T.literals) h

module _ (T : Tables) (h : lawful T ≡ true) where
  holds : (r : Rule) (row : ℕ) → row < rows_for r T → holds_at r T row ≡ true
  holds = holds_at_lem T (rows_lawful_lem T h)

  -- how many rows there are
  pub few_bytes : length T.pool ≤ most_bytes
  few_bytes = leb-true (length T.pool) most_bytes (holds (Size size.Pool) 0 (omega arith))

  pub names_counted : counted name_width least_names most_names T.names ≡ true
  names_counted = holds (Size size.Names) 0 (omega arith)

  pub few_names : name_count T ≤ most_names
  few_names = few name_width least_names most_names T.names names_counted

  pub enough_names : least_names ≤ name_count T
  enough_names = enough name_width least_names most_names T.names names_counted (omega arith)

  pub type_refs_counted : counted type_ref_width 0 most_type_refs T.refs ≡ true
  type_refs_counted = holds (Size size.TypeRefs) 0 (omega arith)

  pub few_type_refs : ref_count T ≤ most_type_refs
  few_type_refs = few type_ref_width 0 most_type_refs T.refs type_refs_counted

  pub types_counted : counted type_width 0 most_types T.types ≡ true
  types_counted = holds (Size size.Types) 0 (omega arith)

  pub few_types : type_count T ≤ most_types
  few_types = few type_width 0 most_types T.types types_counted

  pub fields_counted : counted field_width 0 most_fields T.fields ≡ true
  fields_counted = holds (Size size.Fields) 0 (omega arith)

  pub few_fields : field_count T ≤ most_fields
  few_fields = few field_width 0 most_fields T.fields fields_counted

  pub arguments_counted : counted argument_width 0 most_arguments T.arguments ≡ true
  arguments_counted = holds (Size size.Arguments) 0 (omega arith)

  pub few_arguments : argument_count T ≤ most_arguments
  few_arguments = few argument_width 0 most_arguments T.arguments arguments_counted

  pub sets_counted : counted set_width 1 most_rows T.sets ≡ true
  sets_counted = holds (Size size.Sets) 0 (omega arith)

  pub first_set : 1 ≤ set_count T
  first_set = enough set_width 1 most_rows T.sets sets_counted (omega arith)

  pub selections_counted : counted selection_width 0 most_selections T.selections ≡ true
  selections_counted = holds (Size size.Selections) 0 (omega arith)

  pub few_selections : selection_count T ≤ most_selections
  few_selections = few selection_width 0 most_selections T.selections selections_counted

  pub given_counted : counted given_width 0 most_rows T.given ≡ true
  given_counted = holds (Size size.Given) 0 (omega arith)

  pub fragments_counted : counted fragment_width 0 most_fragments T.fragments ≡ true
  fragments_counted = holds (Size size.Fragments) 0 (omega arith)

  pub few_fragments : fragment_count T ≤ most_fragments
  few_fragments = few fragment_width 0 most_fragments T.fragments fragments_counted

  pub nodes_counted : counted node_width 0 most_nodes T.nodes ≡ true
  nodes_counted = holds (Size size.Nodes) 0 (omega arith)

  pub few_nodes : node_count T ≤ most_nodes
  few_nodes = few node_width 0 most_nodes T.nodes nodes_counted

  pub literals_counted : counted literal_width 0 most_literals T.literals ≡ true
  literals_counted = holds (Size size.Literals) 0 (omega arith)

  pub few_literals : literal_count T ≤ most_literals
  few_literals = few literal_width 0 most_literals T.literals literals_counted

  pub variables_counted : counted variable_width 0 most_variables T.variables ≡ true
  variables_counted = holds (Size size.Variables) 0 (omega arith)

  pub few_variables : variable_count T ≤ most_variables
  few_variables = few variable_width 0 most_variables T.variables variables_counted

  pub answers_counted : counted answer_width 1 most_answers T.answers ≡ true
  answers_counted = holds (Size size.Answers) 0 (omega arith)

  pub few_answers : answer_count T ≤ most_answers
  few_answers = few answer_width 1 most_answers T.answers answers_counted

  pub first_answer : 1 ≤ answer_count T
  first_answer = enough answer_width 1 most_answers T.answers answers_counted (omega arith)

  -- a set that is not there stands past the table's end
  pub sets_end : (set : ℕ) → set_count T ≤ set → length T.sets ≤ set * set_width
  unfolding rows_of
  sets_end set l = omega (arith, whole set_width 1 most_rows T.sets sets_counted, at_most set_width 1 most_rows T.sets sets_counted)

  -- what is known of each row
  pub name_spelled_lem : (row : ℕ) → row < name_count T → name_spelled T.pool T.names row ≡ true
  name_spelled_lem row l = holds (Schema schema.NameSpelled) row l

  pub name_reserved_lem : (row : ℕ) → row < name_count T → name_reserved T.pool T.names row ≡ true
  name_reserved_lem row l = holds (Schema schema.NameReserved) row l

  pub names_differ : (row : ℕ) → row < name_count T → name_new T.pool T.names row ≡ true
  names_differ row l = holds (Schema schema.NamesDiffer) row l

  pub type_ref_row_lem : (row : ℕ) → row < ref_count T → type_ref_row (name_count T) T.refs row ≡ true
  type_ref_row_lem row l = holds (Schema schema.TypeReference) row l

  pub type_row_lem : (row : ℕ) → row < type_count T → type_row (name_count T) (member_count T) (field_count T) T.types row ≡ true
  type_row_lem row l = holds (Schema schema.TypeRow) row l

  pub type_parts_lem : (row : ℕ) → row < type_count T → type_parts T.types row ≡ true
  type_parts_lem row l = holds (Schema schema.TypeParts) row l

  pub type_names_differ : (row : ℕ) → row < type_count T → type_name_new T.types row ≡ true
  type_names_differ row l = holds (Schema schema.TypeNamesDiffer) row l

  pub member_row_lem : (row : ℕ) → row < member_count T → member_row (name_count T) T.members row ≡ true
  member_row_lem row l = holds (Schema schema.Member) row l

  pub field_row_lem : (row : ℕ) → row < field_count T → field_row (name_count T) (ref_count T) (argument_count T) (literal_count T) T.fields row ≡ true
  field_row_lem row l = holds (Schema schema.FieldRow) row l

  pub field_names_differ : (row : ℕ) → row < type_count T → fields_differ T.types T.fields row ≡ true
  field_names_differ row l = holds (Schema schema.FieldNamesDiffer) row l

  pub argument_row_lem : (row : ℕ) → row < argument_count T → argument_row (name_count T) (ref_count T) (literal_count T) T.arguments row ≡ true
  argument_row_lem row l = holds (Schema schema.ArgumentRow) row l

  pub argument_names_differ : (row : ℕ) → row < field_count T → arguments_differ T.fields T.arguments row ≡ true
  argument_names_differ row l = holds (Schema schema.ArgumentNamesDiffer) row l

  pub root_is_object : root_type T.types T.root ≡ true
  root_is_object = holds (Schema schema.RootType) 0 (omega arith)

  pub set_row_lem : (row : ℕ) → row < set_count T → set_row (selection_count T) T.sets row ≡ true
  set_row_lem row l = holds (Document document.SetRow) row l

  pub selection_row_lem : (row : ℕ) → row < selection_count T → selection_row (name_count T) (ref_count T) (set_count T) (given_count T) T.selections row ≡ true
  selection_row_lem row l = holds (Document document.SelectionRow) row l

  pub given_row_lem : (row : ℕ) → row < given_count T → given_row (name_count T) (literal_count T) T.given row ≡ true
  given_row_lem row l = holds (Document document.GivenRow) row l

  pub given_names_differ : (row : ℕ) → row < selection_count T → given_differ T.selections T.given row ≡ true
  given_names_differ row l = holds (Document document.GivenNamesDiffer) row l

  pub fragment_row_lem : (row : ℕ) → row < fragment_count T → fragment_row (name_count T) (set_count T) T.fragments row ≡ true
  fragment_row_lem row l = holds (Document document.FragmentRow) row l

  pub fragment_names_differ : (row : ℕ) → row < fragment_count T → fragment_name_new T.fragments row ≡ true
  fragment_names_differ row l = holds (Document document.FragmentNamesDiffer) row l

  pub child_sets_larger_lem : (row : ℕ) → row < set_count T → child_sets_larger T.sets T.selections row ≡ true
  child_sets_larger_lem row l = holds (Document document.ChildSetsLarger) row l

  pub selection_owns_alone_lem : (row : ℕ) → row < selection_count T → selection_owns_alone T.selections row ≡ true
  selection_owns_alone_lem row l = holds (Document document.SelectionOwnsAlone) row l

  pub fragment_owns_alone_lem : (row : ℕ) → row < fragment_count T → fragment_owns_alone T.selections T.fragments row ≡ true
  fragment_owns_alone_lem row l = holds (Document document.FragmentOwnsAlone) row l

  pub node_row_lem : (row : ℕ) → row < node_count T → node_row T.pool (node_count T) T.nodes row ≡ true
  node_row_lem row l = holds (Value value.NodeRow) row l

  pub node_key_lem : (row : ℕ) → row < node_count T → node_key_row T.pool T.nodes row ≡ true
  node_key_lem row l = holds (Value value.NodeKey) row l

  pub node_keys_differ_lem : (row : ℕ) → row < node_count T → node_keys_differ T.pool T.nodes row ≡ true
  node_keys_differ_lem row l = holds (Value value.NodeKeysDiffer) row l

  pub literal_row_lem : (row : ℕ) → row < literal_count T → literal_row T.pool (name_count T) (literal_count T) T.literals row ≡ true
  literal_row_lem row l = holds (Value value.LiteralRow) row l

  pub literal_keys_differ_lem : (row : ℕ) → row < literal_count T → literal_keys_differ T.literals row ≡ true
  literal_keys_differ_lem row l = holds (Value value.LiteralKeysDiffer) row l

  pub variable_row_lem : (row : ℕ) → row < variable_count T → variable_row (name_count T) (node_count T) T.variables row ≡ true
  variable_row_lem row l = holds (Value value.VariableRow) row l

  pub variable_names_differ : (row : ℕ) → row < variable_count T → variable_name_new T.variables row ≡ true
  variable_names_differ row l = holds (Value value.VariableNamesDiffer) row l

  pub answer_row_lem : (row : ℕ) → row < answer_count T → answer_row (name_count T) (node_count T) (answer_count T) T.answers row ≡ true
  answer_row_lem row l = holds (Value value.AnswerRow) row l

  pub answer_names_differ_lem : (row : ℕ) → row < answer_count T → answer_names_differ T.answers row ≡ true
  answer_names_differ_lem row l = holds (Value value.AnswerNamesDiffer) row l

  pub root_answer_lem : root_answer T.answers ≡ true
  root_answer_lem = holds (Value value.RootAnswer) 0 (omega arith)

-- what looking for variables in defaults rests on
module _ (T : Tables) (h : rows_lawful T ≡ true) where
  pub nested : Nested T.literals
  nested = record {
    few = few literal_width 0 most_literals T.literals (holds_at_lem T h (Size size.Literals) 0 (omega arith));
    parts = λ row l. literal_parts_lem T.pool (name_count T) (literal_count T) T.literals row (holds_at_lem T h (Value value.LiteralRow) row l);
  }

  pub defaulted : Defaulted T.fields T.arguments T.literals
  defaulted = record {
    of_fields = λ row l.
        field_default_lem (name_count T) (ref_count T) (argument_count T) (literal_count T) T.fields row (holds_at_lem T h (Schema schema.FieldRow) row l);
    of_arguments = λ row l.
        argument_default_lem (name_count T) (ref_count T) (literal_count T) T.arguments row (holds_at_lem T h (Schema schema.ArgumentRow) row l);
  }

pub searched : (T : Tables) (r : Bool) → r ≡ rows_lawful T → not r ≡ false → Nested T.literals × Defaulted T.fields T.arguments T.literals
searched T r e n = let rows = verified r (rows_lawful T) e n in (nested T rows, defaulted T rows)
