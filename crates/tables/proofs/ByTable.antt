-- That the rules table by table are all the rules. Assumes nothing.
use mathlib.Core.Path.{◌≡◌, sym, ◌∙◌}
use mathlib.Core.Bool.{Bool, true, false, not, ◌&&◌}
use mathlib.Core.List.{List, ◌∷◌}
use Prim.Native.Nat.{ℕ, ◌≤◌}
use native.Mathlib.Omega.{arith}
use lib.ListN.{get_or}
use Rattle.rows.specs.Layout.{name_width, selection_width}
use Rattle.rows.specs.Limits.{least_names, most_names, most_selections}
use Rattle.rows.specs.Rows.{all, rows_of}
use Rattle.rules.specs.Rows.{counted}
use Rattle.rules.specs.Names.{name_spelled, name_reserved}
use Rattle.rules.specs.Schema.{type_row, type_parts, field_row, fields_differ, arguments_differ, root_type}
use Rattle.rules.specs.Document.{set_row, selection_row, given_differ, child_sets_larger, selection_owns_alone, fragment_owns_alone}
use Rattle.rules.specs.Json.{node_row, node_key_row, node_keys_differ, literal_row, literal_keys_differ}
use Rattle.rules.specs.Answers.{answer_row, answer_names_differ, root_answer}
use Rattle.tables.specs.Tables.{Tables, name_count, ref_count, type_count, member_count, field_count, argument_count, set_count, selection_count, given_count, fragment_count, node_count, literal_count, answer_count}
use Rattle.tables.specs.Rules.{size_holds, obeyed, rows_lawful}
use Rattle.tables.specs.ByTable.{conj, schema_sizes, document_sizes, values_sizes, name_holds, field_holds, type_holds, selection_holds, set_holds, node_holds, literal_holds, schema_tests, document_tests, values_tests, by_table}
use Rattle.tables.specs.declared.rule.Rule.{Rule}
use Rattle.tables.specs.declared.rule.Rule.TheVariants.{Size, Schema, Document, Value}
use Rattle.tables.specs.declared.rule.SizeRule.{SizeRule}
use Rattle.tables.specs.declared.rule.SizeRule.TheVariants as size
use Rattle.tables.specs.declared.rule.SchemaRule.TheVariants as schema
use Rattle.tables.specs.declared.rule.DocumentRule.TheVariants as document
use Rattle.tables.specs.declared.rule.ValueRule.TheVariants as value
use Rattle.rows.proofs.Every.{and-false, and_left, and_right, all_at, all_each}
use Rattle.rules.proofs.Words.{same_truth}
use Rattle.tables.proofs.Chained.{turned_true, turned_false, conj_at}
use Rattle.tables.proofs.Facts.{few}
use Rattle.tables.proofs.Lawful.{obeyed_at, all_obeyed}

-- Both of two things, and of each row.
and-true : {a b : Bool} → a ≡ true → b ≡ true → (a && b) ≡ true
and-true e f = rw (e, f)

module _ (p q : ℕ → Bool) (n : ℕ) where
  all_both : all p n ≡ true → all q n ≡ true → all (λ i. p i && q i) n ≡ true
  all_both e f = all_each (λ i. p i && q i) n (λ i l. and-true (all_at p i n l e) (all_at q i n l f))

  all_left : all (λ i. p i && q i) n ≡ true → all p n ≡ true
  all_left e = all_each p n (λ i l. and_left (p i) (q i) (all_at (λ j. p j && q j) i n l e))

  all_right : all (λ i. p i && q i) n ≡ true → all q n ≡ true
  all_right e = all_each q n (λ i l. and_right (p i) (q i) (all_at (λ j. p j && q j) i n l e))

-- A rule that is said once.
once_obeyed : (b : Bool) → b ≡ true → all (λ row. b) 1 ≡ true
once_obeyed b e = all_each (λ row. b) 1 (λ i l. e)

module _ (T : Tables) where
  abbrev schema_all : List Bool
  schema_all = schema_tests T.pool T.names T.refs T.types T.members T.fields T.arguments (literal_count T) T.root

  abbrev document_all : List Bool
  document_all = document_tests (name_count T) (ref_count T) T.sets T.selections T.given T.fragments (literal_count T)

  abbrev values_all : List Bool
  values_all = values_tests T.pool (name_count T) T.nodes T.literals T.variables T.answers

  -- the two rules on owners, those on nodes, and those on answers
  abbrev owners_1 : Bool
  owners_1 = all (selection_owns_alone T.selections) (selection_count T)

  abbrev owners_2 : Bool
  owners_2 = all (fragment_owns_alone T.selections T.fragments) (fragment_count T)

  abbrev nodes_1 : Bool
  nodes_1 = all (node_holds T.pool (node_count T) T.nodes) (node_count T)

  abbrev nodes_2 : Bool
  nodes_2 = all (node_keys_differ T.pool T.nodes) (node_count T)

  abbrev answers_1 : Bool
  answers_1 = all (answer_row (name_count T) (node_count T) (answer_count T) T.answers) (answer_count T)

  abbrev answers_2 : Bool
  answers_2 = all (answer_names_differ T.answers) (answer_count T)

  module _ (h : by_table T ≡ true) where
    abbrev sizes : Bool
    sizes = conj (schema_sizes T) && (conj (document_sizes T) && conj (values_sizes T))

    abbrev chapters : Bool
    chapters = conj schema_all && (conj document_all && conj values_all)

    sized : sizes ≡ true
    unfolding by_table
    sized = and_left sizes chapters h

    held : chapters ≡ true
    unfolding by_table
    held = and_right sizes chapters h

    schema_size : (k : ℕ) → get_or (schema_sizes T) k true ≡ true
    schema_size k = conj_at (schema_sizes T) k (and_left (conj (schema_sizes T)) (conj (document_sizes T) && conj (values_sizes T)) sized)

    document_size : (k : ℕ) → get_or (document_sizes T) k true ≡ true
    document_size k =
        conj_at (document_sizes T) k
        (and_left (conj (document_sizes T)) (conj (values_sizes T)) (and_right (conj (schema_sizes T)) (conj (document_sizes T) && conj (values_sizes T)) sized))

    values_size : (k : ℕ) → get_or (values_sizes T) k true ≡ true
    values_size k =
        conj_at (values_sizes T) k
        (and_right (conj (document_sizes T)) (conj (values_sizes T)) (and_right (conj (schema_sizes T)) (conj (document_sizes T) && conj (values_sizes T)) sized))

    schema_at : (k : ℕ) → get_or schema_all k true ≡ true
    schema_at k = conj_at schema_all k (and_left (conj schema_all) (conj document_all && conj values_all) held)

    document_at : (k : ℕ) → get_or document_all k true ≡ true
    document_at k =
        conj_at document_all k (and_left (conj document_all) (conj values_all) (and_right (conj schema_all) (conj document_all && conj values_all) held))

    values_at : (k : ℕ) → get_or values_all k true ≡ true
    values_at k =
        conj_at values_all k (and_right (conj document_all) (conj values_all) (and_right (conj schema_all) (conj document_all && conj values_all) held))

    types_1 : all (λ row. type_row (name_count T) (member_count T) (field_count T) T.types row && type_parts T.types row) (type_count T) ≡ true
    unfolding type_holds
    types_1 =
        all_left (λ row. type_row (name_count T) (member_count T) (field_count T) T.types row && type_parts T.types row) (fields_differ T.types T.fields)
        (type_count T) (schema_at 6)

    -- each rule by itself
    each_obeyed : (r : Rule) → obeyed r T ≡ true
    unfolding obeyed name_holds field_holds type_holds selection_holds set_holds node_holds literal_holds
    each_obeyed (Size size.Pool) = once_obeyed (size_holds size.Pool T) (schema_size 0)
    each_obeyed (Size size.Names) = once_obeyed (size_holds size.Names T) (schema_size 1)
    each_obeyed (Size size.TypeRefs) = once_obeyed (size_holds size.TypeRefs T) (schema_size 2)
    each_obeyed (Size size.Types) = once_obeyed (size_holds size.Types T) (schema_size 3)
    each_obeyed (Size size.Fields) = once_obeyed (size_holds size.Fields T) (schema_size 4)
    each_obeyed (Size size.Arguments) = once_obeyed (size_holds size.Arguments T) (schema_size 5)
    each_obeyed (Size size.Sets) = once_obeyed (size_holds size.Sets T) (document_size 0)
    each_obeyed (Size size.Selections) = once_obeyed (size_holds size.Selections T) (document_size 1)
    each_obeyed (Size size.Given) = once_obeyed (size_holds size.Given T) (document_size 2)
    each_obeyed (Size size.Fragments) = once_obeyed (size_holds size.Fragments T) (document_size 3)
    each_obeyed (Size size.Nodes) = once_obeyed (size_holds size.Nodes T) (values_size 0)
    each_obeyed (Size size.Literals) = once_obeyed (size_holds size.Literals T) (values_size 1)
    each_obeyed (Size size.Variables) = once_obeyed (size_holds size.Variables T) (values_size 2)
    each_obeyed (Size size.Answers) = once_obeyed (size_holds size.Answers T) (values_size 3)
    each_obeyed (Schema schema.NameSpelled) =
        all_left (name_spelled T.pool T.names) (name_reserved T.pool T.names) (name_count T) (schema_at 0)
    each_obeyed (Schema schema.NameReserved) =
        all_right (name_spelled T.pool T.names) (name_reserved T.pool T.names) (name_count T) (schema_at 0)
    each_obeyed (Schema schema.NamesDiffer) = schema_at 1
    each_obeyed (Schema schema.TypeReference) = schema_at 2
    each_obeyed (Schema schema.Member) = schema_at 3
    each_obeyed (Schema schema.ArgumentRow) = schema_at 4
    each_obeyed (Schema schema.FieldRow) =
        all_left (field_row (name_count T) (ref_count T) (argument_count T) (literal_count T) T.fields) (arguments_differ T.fields T.arguments)
        (field_count T) (schema_at 5)
    each_obeyed (Schema schema.ArgumentNamesDiffer) =
        all_right (field_row (name_count T) (ref_count T) (argument_count T) (literal_count T) T.fields) (arguments_differ T.fields T.arguments)
        (field_count T) (schema_at 5)
    each_obeyed (Schema schema.TypeRow) =
        all_left (type_row (name_count T) (member_count T) (field_count T) T.types) (type_parts T.types) (type_count T) types_1
    each_obeyed (Schema schema.TypeParts) =
        all_right (type_row (name_count T) (member_count T) (field_count T) T.types) (type_parts T.types) (type_count T) types_1
    each_obeyed (Schema schema.FieldNamesDiffer) =
        all_right (λ row. type_row (name_count T) (member_count T) (field_count T) T.types row && type_parts T.types row) (fields_differ T.types T.fields)
        (type_count T) (schema_at 6)
    each_obeyed (Schema schema.TypeNamesDiffer) = schema_at 7
    each_obeyed (Schema schema.RootType) = once_obeyed (root_type T.types T.root) (schema_at 8)
    each_obeyed (Document document.GivenRow) = document_at 0
    each_obeyed (Document document.SelectionRow) =
        all_left (selection_row (name_count T) (ref_count T) (set_count T) (given_count T) T.selections) (given_differ T.selections T.given)
        (selection_count T) (document_at 1)
    each_obeyed (Document document.GivenNamesDiffer) =
        all_right (selection_row (name_count T) (ref_count T) (set_count T) (given_count T) T.selections) (given_differ T.selections T.given)
        (selection_count T) (document_at 1)
    each_obeyed (Document document.FragmentRow) = document_at 2
    each_obeyed (Document document.FragmentNamesDiffer) = document_at 3
    each_obeyed (Document document.SelectionOwnsAlone) = and_left owners_1 owners_2 (document_at 4)
    each_obeyed (Document document.FragmentOwnsAlone) = and_right owners_1 owners_2 (document_at 4)
    each_obeyed (Document document.SetRow) =
        all_left (set_row (selection_count T) T.sets) (child_sets_larger T.sets T.selections) (set_count T) (document_at 5)
    each_obeyed (Document document.ChildSetsLarger) =
        all_right (set_row (selection_count T) T.sets) (child_sets_larger T.sets T.selections) (set_count T) (document_at 5)
    each_obeyed (Value value.NodeRow) =
        all_right (node_key_row T.pool T.nodes) (node_row T.pool (node_count T) T.nodes) (node_count T) (and_left nodes_1 nodes_2 (values_at 0))
    each_obeyed (Value value.NodeKey) =
        all_left (node_key_row T.pool T.nodes) (node_row T.pool (node_count T) T.nodes) (node_count T) (and_left nodes_1 nodes_2 (values_at 0))
    each_obeyed (Value value.NodeKeysDiffer) = and_right nodes_1 nodes_2 (values_at 0)
    each_obeyed (Value value.LiteralRow) =
        all_left (literal_row T.pool (name_count T) (literal_count T) T.literals) (literal_keys_differ T.literals) (literal_count T) (values_at 1)
    each_obeyed (Value value.LiteralKeysDiffer) =
        all_right (literal_row T.pool (name_count T) (literal_count T) T.literals) (literal_keys_differ T.literals) (literal_count T) (values_at 1)
    each_obeyed (Value value.VariableRow) = values_at 2
    each_obeyed (Value value.VariableNamesDiffer) = values_at 3
    each_obeyed (Value value.AnswerRow) = and_left answers_1 answers_2 (values_at 4)
    each_obeyed (Value value.AnswerNamesDiffer) = and_right answers_1 answers_2 (values_at 4)
    each_obeyed (Value value.RootAnswer) = once_obeyed (root_answer T.answers) (values_at 5)

  -- and all rules together
  module _ (h : rows_lawful T ≡ true) where
    o : (r : Rule) → obeyed r T ≡ true
    o = obeyed_at T h

    size_at : (r : SizeRule) → size_holds r T ≡ true
    unfolding obeyed
    size_at r = all_at (λ row. size_holds r T) 0 1 (omega arith) (o (Size r))

    root_type_lem : root_type T.types T.root ≡ true
    unfolding obeyed
    root_type_lem = all_at (λ row. root_type T.types T.root) 0 1 (omega arith) (o (Schema schema.RootType))

    root_answer_lem : root_answer T.answers ≡ true
    unfolding obeyed
    root_answer_lem = all_at (λ row. root_answer T.answers) 0 1 (omega arith) (o (Value value.RootAnswer))

    schema_hold : conj schema_all ≡ true
    unfolding conj obeyed name_holds field_holds type_holds
    schema_hold =
        and-true (all_both (name_spelled T.pool T.names) (name_reserved T.pool T.names) (name_count T) (o (Schema schema.NameSpelled)) (o (Schema schema.NameReserved)))
        (and-true (o (Schema schema.NamesDiffer))
        (and-true (o (Schema schema.TypeReference))
        (and-true (o (Schema schema.Member))
        (and-true (o (Schema schema.ArgumentRow))
        (and-true
        (all_both (field_row (name_count T) (ref_count T) (argument_count T) (literal_count T) T.fields) (arguments_differ T.fields T.arguments) (field_count T)
        (o (Schema schema.FieldRow)) (o (Schema schema.ArgumentNamesDiffer)))
        (and-true
        (all_both (λ row. type_row (name_count T) (member_count T) (field_count T) T.types row && type_parts T.types row) (fields_differ T.types T.fields) (type_count T)
        (all_both (type_row (name_count T) (member_count T) (field_count T) T.types) (type_parts T.types) (type_count T) (o (Schema schema.TypeRow)) (o (Schema schema.TypeParts)))
        (o (Schema schema.FieldNamesDiffer)))
        (and-true (o (Schema schema.TypeNamesDiffer)) root_type_lem)))))))

    document_hold : conj document_all ≡ true
    unfolding conj obeyed selection_holds set_holds
    document_hold =
        and-true (o (Document document.GivenRow))
        (and-true
        (all_both (selection_row (name_count T) (ref_count T) (set_count T) (given_count T) T.selections) (given_differ T.selections T.given) (selection_count T)
        (o (Document document.SelectionRow)) (o (Document document.GivenNamesDiffer)))
        (and-true (o (Document document.FragmentRow))
        (and-true (o (Document document.FragmentNamesDiffer))
        (and-true (and-true (o (Document document.SelectionOwnsAlone)) (o (Document document.FragmentOwnsAlone)))
        (all_both (set_row (selection_count T) T.sets) (child_sets_larger T.sets T.selections) (set_count T) (o (Document document.SetRow))
        (o (Document document.ChildSetsLarger)))))))

    values_hold : conj values_all ≡ true
    unfolding conj obeyed node_holds literal_holds
    values_hold =
        and-true
        (and-true
        (all_both (node_key_row T.pool T.nodes) (node_row T.pool (node_count T) T.nodes) (node_count T) (o (Value value.NodeKey)) (o (Value value.NodeRow)))
        (o (Value value.NodeKeysDiffer)))
        (and-true
        (all_both (literal_row T.pool (name_count T) (literal_count T) T.literals) (literal_keys_differ T.literals) (literal_count T)
        (o (Value value.LiteralRow)) (o (Value value.LiteralKeysDiffer)))
        (and-true (o (Value value.VariableRow))
        (and-true (o (Value value.VariableNamesDiffer))
        (and-true (and-true (o (Value value.AnswerRow)) (o (Value value.AnswerNamesDiffer))) root_answer_lem))))

    sizes_hold : (conj (schema_sizes T) && (conj (document_sizes T) && conj (values_sizes T))) ≡ true
    unfolding conj
    sizes_hold =
        and-true
        (and-true (size_at size.Pool) (and-true (size_at size.Names) (and-true (size_at size.TypeRefs) (and-true (size_at size.Types)
        (and-true (size_at size.Fields) (size_at size.Arguments))))))
        (and-true
        (and-true (size_at size.Sets) (and-true (size_at size.Selections) (and-true (size_at size.Given) (size_at size.Fragments))))
        (and-true (size_at size.Nodes) (and-true (size_at size.Literals) (and-true (size_at size.Variables) (size_at size.Answers)))))

    all_hold : by_table T ≡ true
    unfolding by_table
    all_hold = and-true sizes_hold (and-true schema_hold (and-true document_hold values_hold))

  -- the one theorem: what is looked at table by table is every rule
  pub by_table_lem : by_table T ≡ rows_lawful T
  by_table_lem = same_truth (by_table T) (rows_lawful T) (λ h. all_obeyed T (each_obeyed h)) all_hold

  -- what the check answers as it goes
  abbrev sizes_of : Bool → Bool → Bool → Bool
  sizes_of s d v = s && (d && v)

  pub stop_sizes : (s d v : Bool) → s ≡ conj (schema_sizes T) → d ≡ conj (document_sizes T) → v ≡ conj (values_sizes T)
      → not (sizes_of s d v) ≡ true → false ≡ rows_lawful T
  unfolding by_table
  stop_sizes s d v e f g n =
      let broken : (conj (schema_sizes T) && (conj (document_sizes T) && conj (values_sizes T))) ≡ false = rw (← e, ← f, ← g) (turned_false (sizes_of s d v) n) in
      rw (← by_table_lem, broken)

  pub stop_schema : (h : Bool) → h ≡ conj schema_all → not h ≡ true → false ≡ rows_lawful T
  unfolding by_table
  stop_schema h e n =
      let broken : conj schema_all ≡ false = sym e ∙ turned_false h n in
      rw (← by_table_lem, broken) (sym (and-false (conj (schema_sizes T) && (conj (document_sizes T) && conj (values_sizes T)))))

  pub stop_document : (h : Bool) → h ≡ conj document_all → not h ≡ true → false ≡ rows_lawful T
  unfolding by_table
  stop_document h e n =
      let broken : conj document_all ≡ false = sym e ∙ turned_false h n in
      rw (← by_table_lem, broken, and-false) (sym (and-false (conj (schema_sizes T) && (conj (document_sizes T) && conj (values_sizes T)))))

  pub go_values : (s d v h k r : Bool) → s ≡ conj (schema_sizes T) → d ≡ conj (document_sizes T) → v ≡ conj (values_sizes T) → not (sizes_of s d v) ≡ false
      → h ≡ conj schema_all → not h ≡ false → k ≡ conj document_all → not k ≡ false → r ≡ conj values_all → r ≡ rows_lawful T
  unfolding by_table
  go_values s d v h k r e f g n eh nh ek nk er =
      let sizes : (conj (schema_sizes T) && (conj (document_sizes T) && conj (values_sizes T))) ≡ true = rw (← e, ← f, ← g) (turned_true (sizes_of s d v) n) in
      let first : conj schema_all ≡ true = sym eh ∙ turned_true h nh in
      let second : conj document_all ≡ true = sym ek ∙ turned_true k nk in
      rw (← by_table_lem, sizes, first, second) er

-- What later tests rest on: the names and the selections are few.
pub sized_names : (names : List ℕ) (s rest a : Bool) (more : List Bool) → s ≡ conj (a ∷ counted name_width least_names most_names names ∷ more)
    → not (s && rest) ≡ false → rows_of names name_width ≤ most_names
sized_names names s rest a more e n =
    few name_width least_names most_names names
    (conj_at (a ∷ counted name_width least_names most_names names ∷ more) 1 (sym e ∙ and_left s rest (turned_true (s && rest) n)))

pub sized_selections : (selections : List ℕ) (s d v a : Bool) (more : List Bool)
    → d ≡ conj (a ∷ counted selection_width 0 most_selections selections ∷ more) → not (s && (d && v)) ≡ false
    → rows_of selections selection_width ≤ most_selections
sized_selections selections s d v a more e n =
    few selection_width 0 most_selections selections
    (conj_at (a ∷ counted selection_width 0 most_selections selections ∷ more) 1
    (sym e ∙ and_left d v (and_right s (d && v) (turned_true (s && (d && v)) n))))
