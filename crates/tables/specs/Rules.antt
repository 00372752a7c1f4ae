-- The rules of document 01 on the tables lent, by name, each beside the sentence that it reads.
use Rattle.std.specs.Prelude.{List, [], ◌∷◌, ◌++◌, map, Bool, ℕ, length, get_or, leb}
use Rattle.rows.specs.Layout.{name_width, type_ref_width, type_width, field_width, argument_width, set_width, selection_width, given_width, fragment_width, node_width, literal_width, variable_width, answer_width}
use Rattle.rows.specs.Limits.{most_bytes, least_names, most_names, most_type_refs, most_types, most_fields, most_arguments, most_selections, most_fragments, most_nodes, most_literals, most_variables, most_answers, most_rows}
use Rattle.rows.specs.Rows.{all}
use Rattle.rules.specs.Rows.{counted}
use Rattle.rules.specs.Names.{name_spelled, name_reserved, name_new}
use Rattle.rules.specs.Schema.{type_ref_row, type_row, type_parts, type_name_new, member_row, field_row, fields_differ, argument_row, arguments_differ, root_type}
use Rattle.rules.specs.Document.{set_row, selection_row, given_row, given_differ, fragment_row, fragment_name_new, child_sets_larger, selection_owns_alone, fragment_owns_alone}
use Rattle.rules.specs.Json.{node_row, node_key_row, node_keys_differ, literal_row, literal_keys_differ, variable_row, variable_name_new}
use Rattle.rules.specs.Answers.{answer_row, answer_names_differ, root_answer}
use Rattle.tables.specs.Tables.{Tables, name_count, ref_count, type_count, member_count, field_count, argument_count, set_count, selection_count, given_count, fragment_count, node_count, literal_count, variable_count, answer_count}
use Rattle.tables.specs.declared.rule.SizeRule.{SizeRule}
use Rattle.tables.specs.declared.rule.SizeRule.TheVariants as size
use Rattle.tables.specs.declared.rule.SchemaRule.{SchemaRule}
use Rattle.tables.specs.declared.rule.SchemaRule.TheVariants as schema
use Rattle.tables.specs.declared.rule.DocumentRule.{DocumentRule}
use Rattle.tables.specs.declared.rule.DocumentRule.TheVariants as document
use Rattle.tables.specs.declared.rule.ValueRule.{ValueRule}
use Rattle.tables.specs.declared.rule.ValueRule.TheVariants as value
use Rattle.tables.specs.declared.rule.Rule.{Rule}
use Rattle.tables.specs.declared.rule.Rule.TheVariants as rule

-- How many rows a table has, all of them whole. What document 01 sets no limit to has as many rows as words can number.
abbrev pub size_holds : SizeRule → Tables → Bool
-- "a pool up to 65,536 bytes"
size_holds size.Pool T = leb (length T.pool) most_bytes
-- "Names, 12 to 512"
size_holds size.Names T = counted name_width least_names most_names T.names
-- "Type references, up to 1,024"
size_holds size.TypeRefs T = counted type_ref_width 0 most_type_refs T.refs
-- "Types, up to 128"
size_holds size.Types T = counted type_width 0 most_types T.types
-- "Fields and arguments up to 1,024 each"
size_holds size.Fields T = counted field_width 0 most_fields T.fields
size_holds size.Arguments T = counted argument_width 0 most_arguments T.arguments
-- "Set 0 is the operation's."
size_holds size.Sets T = counted set_width 1 most_rows T.sets
-- "Selections, up to 2,048"
size_holds size.Selections T = counted selection_width 0 most_selections T.selections
size_holds size.Given T = counted given_width 0 most_rows T.given
-- "Fragments, up to 64"
size_holds size.Fragments T = counted fragment_width 0 most_fragments T.fragments
-- "JSON nodes, up to 4,096"
size_holds size.Nodes T = counted node_width 0 most_nodes T.nodes
-- "Literals, up to 1,024"
size_holds size.Literals T = counted literal_width 0 most_literals T.literals
-- "Variable values, up to 64"
size_holds size.Variables T = counted variable_width 0 most_variables T.variables
-- "Answers, up to 4,096 .. The first is the root"
size_holds size.Answers T = counted answer_width 1 most_answers T.answers

-- The other rules speak of rows: how many, and whether the rule holds at one of them.
pub record Says : Type 0 where
  pub rows : ℕ
  pub holds : ℕ → Bool

abbrev pub each : ℕ → (ℕ → Bool) → Says
each rows holds = record { rows = rows; holds = holds }

-- a rule that is said once, of no row
abbrev pub once : Bool → Says
once b = record { rows = 1; holds = λ row. b }

-- Names, type references, types, fields and arguments.
abbrev pub schema_says : SchemaRule → Tables → Says
-- "1 to 64 bytes, `[_A-Za-z][_0-9A-Za-z]*`"
schema_says schema.NameSpelled T = each (name_count T) (name_spelled T.pool T.names)
-- "Names 0 to 11 are `__typename`, `Int`, .."
schema_says schema.NameReserved T = each (name_count T) (name_reserved T.pool T.names)
-- "no two equal"
schema_says schema.NamesDiffer T = each (name_count T) (name_new T.pool T.names)
-- "named or list, each nullable or not; a list's inner row comes earlier"
schema_says schema.TypeReference T = each (ref_count T) (type_ref_row (name_count T) T.refs)
-- "A row number names a row that is there.": a type's name, its fields and its members
schema_says schema.TypeRow T = each (type_count T) (type_row (name_count T) (member_count T) (field_count T) T.types)
-- "scalar, enum, object, interface, union, input object, with values, fields, members or interfaces"
schema_says schema.TypeParts T = each (type_count T) (type_parts T.types)
-- "Types, .. distinct names"
schema_says schema.TypeNamesDiffer T = each (type_count T) (type_name_new T.types)
-- values, members and interfaces "go by name"
schema_says schema.Member T = each (member_count T) (member_row (name_count T) T.members)
-- "Fields .., with type reference, literal default or none, and place. Field names .., none is `__typename`"
schema_says schema.FieldRow T = each (field_count T) (field_row (name_count T) (ref_count T) (argument_count T) (literal_count T) T.fields)
-- "Field names are distinct within a type"
schema_says schema.FieldNamesDiffer T = each (type_count T) (fields_differ T.types T.fields)
-- "arguments .., with type reference, literal default or none, and place"
schema_says schema.ArgumentRow T = each (argument_count T) (argument_row (name_count T) (ref_count T) (literal_count T) T.arguments)
-- "argument names within a field"
schema_says schema.ArgumentNamesDiffer T = each (field_count T) (arguments_differ T.fields T.arguments)
-- "Root type: an object type."
schema_says schema.RootType T = once (root_type T.types T.root)

-- Sets of selections, arguments given, fragments.
abbrev pub document_says : DocumentRule → Tables → Says
-- "Selections, .. in sets."
document_says document.SetRow T = each (set_count T) (set_row (selection_count T) T.sets)
-- "A field row has name, response key, arguments, child set, place, and its attached type .. Skip and include are each: none, false,
-- true, or a variable."
document_says document.SelectionRow T = each (selection_count T) (selection_row (name_count T) (ref_count T) (set_count T) (given_count T) T.selections)
-- "A row number names a row that is there.": the name and the literal of an argument given
document_says document.GivenRow T = each (given_count T) (given_row (name_count T) (literal_count T) T.given)
-- "argument names within a .. selection"
document_says document.GivenNamesDiffer T = each (selection_count T) (given_differ T.selections T.given)
-- "A row number names a row that is there.": a fragment's name, type condition and set
document_says document.FragmentRow T = each (fragment_count T) (fragment_row (name_count T) (set_count T) T.fragments)
-- "Fragments, .. distinct names."
document_says document.FragmentNamesDiffer T = each (fragment_count T) (fragment_name_new T.fragments)
-- "A child set has a larger number than its parent."
document_says document.ChildSetsLarger T = each (set_count T) (child_sets_larger T.sets T.selections)
-- "No set belongs to two owners (operation, field, inline fragment, fragment)."
document_says document.SelectionOwnsAlone T = each (selection_count T) (selection_owns_alone T.selections)
document_says document.FragmentOwnsAlone T = each (fragment_count T) (fragment_owns_alone T.selections T.fragments)

-- JSON nodes, literals, variables, answers.
abbrev pub value_says : ValueRule → Tables → Says
-- "null, booleans, integer .., float .., string, array, object .. Children come later."
value_says value.NodeRow T = each (node_count T) (node_row T.pool (node_count T) T.nodes)
-- "each string valid UTF-8": a key too
value_says value.NodeKey T = each (node_count T) (node_key_row T.pool T.nodes)
-- "object with distinct keys"
value_says value.NodeKeysDiffer T = each (node_count T) (node_keys_differ T.pool T.nodes)
-- "with a place each, as JSON nodes but integers from -2^31 to 2^31 - 1, and also enum name or variable"
value_says value.LiteralRow T = each (literal_count T) (literal_row T.pool (name_count T) (literal_count T) T.literals)
-- "as JSON nodes": objects have distinct keys
value_says value.LiteralKeysDiffer T = each (literal_count T) (literal_keys_differ T.literals)
-- "Variable values, .. each a JSON node."
value_says value.VariableRow T = each (variable_count T) (variable_row (name_count T) (node_count T) T.variables)
-- "distinct names"
value_says value.VariableNamesDiffer T = each (variable_count T) (variable_name_new T.variables)
-- "skip, error, leaf, list, object .., or echo"
value_says value.AnswerRow T = each (answer_count T) (answer_row (name_count T) (node_count T) (answer_count T) T.answers)
-- "a row for each field name answered, names distinct"
value_says value.AnswerNamesDiffer T = each (answer_count T) (answer_names_differ T.answers)
-- "The first is the root and is an object"
value_says value.RootAnswer T = once (root_answer T.answers)

abbrev pub says : Rule → Tables → Says
says (rule.Size r) T = once (size_holds r T)
says (rule.Schema r) T = schema_says r T
says (rule.Document r) T = document_says r T
says (rule.Value r) T = value_says r T

abbrev pub rows_for : Rule → Tables → ℕ
rows_for r T = (says r T).rows

abbrev pub holds_at : Rule → Tables → ℕ → Bool
holds_at r T row = (says r T).holds row

-- a rule is obeyed where it holds at every row that it speaks of
unfoldable pub obeyed : Rule → Tables → Bool
obeyed r T = all (holds_at r T) (rows_for r T)

-- every rule
abbrev pub size_rules : List SizeRule
size_rules =
    size.Pool ∷ size.Names ∷ size.TypeRefs ∷ size.Types ∷ size.Fields ∷ size.Arguments ∷ size.Sets ∷ size.Selections ∷ size.Given
    ∷ size.Fragments ∷ size.Nodes ∷ size.Literals ∷ size.Variables ∷ size.Answers ∷ []

abbrev pub schema_rules : List SchemaRule
schema_rules =
    schema.NameSpelled ∷ schema.NameReserved ∷ schema.NamesDiffer ∷ schema.TypeReference ∷ schema.TypeRow ∷ schema.TypeParts
    ∷ schema.TypeNamesDiffer ∷ schema.Member ∷ schema.FieldRow ∷ schema.FieldNamesDiffer ∷ schema.ArgumentRow
    ∷ schema.ArgumentNamesDiffer ∷ schema.RootType ∷ []

abbrev pub document_rules : List DocumentRule
document_rules =
    document.SetRow ∷ document.SelectionRow ∷ document.GivenRow ∷ document.GivenNamesDiffer ∷ document.FragmentRow
    ∷ document.FragmentNamesDiffer ∷ document.ChildSetsLarger ∷ document.SelectionOwnsAlone ∷ document.FragmentOwnsAlone ∷ []

abbrev pub value_rules : List ValueRule
value_rules =
    value.NodeRow ∷ value.NodeKey ∷ value.NodeKeysDiffer ∷ value.LiteralRow ∷ value.LiteralKeysDiffer ∷ value.VariableRow
    ∷ value.VariableNamesDiffer ∷ value.AnswerRow ∷ value.AnswerNamesDiffer ∷ value.RootAnswer ∷ []

abbrev pub size_rule : ℕ → SizeRule
size_rule k = get_or size_rules k size.Answers

abbrev pub schema_rule : ℕ → SchemaRule
schema_rule k = get_or schema_rules k schema.RootType

abbrev pub document_rule : ℕ → DocumentRule
document_rule k = get_or document_rules k document.FragmentOwnsAlone

abbrev pub value_rule : ℕ → ValueRule
value_rule k = get_or value_rules k value.RootAnswer

abbrev pub rules : List Rule
rules = map rule.Size size_rules ++ (map rule.Schema schema_rules ++ (map rule.Document document_rules ++ map rule.Value value_rules))

unfoldable pub rule_at : ℕ → Rule
rule_at k = get_or rules k (rule.Value value.RootAnswer)

-- every rule is obeyed
unfoldable pub rows_lawful : Tables → Bool
rows_lawful T = all (λ k. obeyed (rule_at k) T) (length rules)
