-- Nothing in a walk below its root looks at which type the root is. Assumes nothing.
use mathlib.Core.Path.{◌≡◌, refl, ap, ◌∙◌}
use mathlib.Core.Bool.{Bool}
use mathlib.Core.List.{List, [], ◌∷◌}
use Rattle.std.specs.Prelude.{Option, Some, None}
use Prim.Native.Nat.{ℕ, zero, suc}
use Rattle.rows.specs.Answers.{answer_at}
use Rattle.rows.specs.declared.layout.Range.{Range}
use Rattle.rows.specs.declared.schema.TypeRef.{TypeRef}
use Rattle.rows.specs.declared.schema.TypeRef.TheVariants as ref
use Rattle.rows.specs.declared.schema.TypeKind.{TypeKind}
use Rattle.rows.specs.declared.schema.TypeKind.TheVariants as kind
use Rattle.rows.specs.declared.answers.Answer.{Answer}
use Rattle.rows.specs.declared.answers.Answer.TheVariants as answer
use Rattle.tables.specs.Tables.{tables}
use Rattle.codes.specs.Outcome.{most_segments}
use Rattle.codes.specs.declared.errors.FieldError.{FieldError}
use Rattle.graphql.specs.Run.{Path, M}
use Rattle.graphql.specs.Json.{Json}
use Rattle.graphql.specs.Data.{Val}
use Rattle.graphql.specs.Lookup.{selections_of}
use Rattle.graphql.specs.Collect.{Group}
use Rattle.graphql.specs.Coerce.{Arguments}
use Rattle.graphql.specs.Request.{Request}
use Rattle.graphql.specs.Complete.{Leaf, Given, a_leaf, a_list, an_object, Resolved, a_skip, an_error, given, Definition, typename, defined, Task, a_field, an_item, field_name, attached_type, field_place, field_error, merge_selection_sets, definition_of, coerce_arguments, echoed, resolved, answered, resolve_field_value, type_defined, named_type, scalar_leaf, enum_leaf, leaf_at, complete_leaf_value, object_named, resolve_abstract_type, object_type, execute_group, execute_selection_set, complete_object_value, complete_items, complete_list_value, complete_value, complete_resolved, complete_item, execute_field, step, run, rows_of_object, execute}
use Rattle.resolving.specs.Sound.{asking}

module _ (pool names refs types members fields arguments sets selections givens fragments nodes literals variables answers : List ℕ) (root : ℕ) where
  abbrev Q : Request
  Q = record { tables = tables pool names refs types members fields arguments sets selections givens fragments nodes literals variables answers root }

  abbrev P : Request
  P = asking pool names refs types members fields arguments sets selections givens fragments nodes literals variables answers

  merge_root : (rows : List ℕ) → merge_selection_sets Q rows ≡ merge_selection_sets P rows
  unfolding merge_selection_sets
  merge_root [] = refl
  merge_root (row ∷ rows) = rw (merge_root rows)

  -- ---- ResolveFieldValue

  echo_root : (n : ℕ) (o : Option Json) → echoed Q n o ≡ echoed P n o
  unfolding echoed
  echo_root n None = refl
  echo_root n (Some j) = refl

  resolve_root : (args : Arguments) (row : ℕ) (a : Answer) → resolved Q args row a ≡ resolved P args row a
  unfolding resolved
  resolve_root args row answer.Skip = refl
  resolve_root args row answer.Error = refl
  resolve_root args row (answer.Leaf node) = refl
  resolve_root args row (answer.List rows) = refl
  resolve_root args row (answer.Object n rows) = refl
  resolve_root args row (answer.Echo n) = echo_root n _
  resolve_root args row answer.Unknown = refl

  answer_root : (args : Arguments) (o : Option ℕ) → answered Q args o ≡ answered P args o
  unfolding answered
  answer_root args None = refl
  answer_root args (Some row) = resolve_root args row _

  -- ---- CompleteValue: the type, leaves

  defined_root : (o : Option ℕ) (g : Group) (p : Path) → type_defined Q o g p ≡ type_defined P o g p
  unfolding type_defined field_error field_place
  defined_root None g p = refl
  defined_root (Some type) g p = refl

  named_root : (t : TypeRef) (g : Group) (p : Path) → named_type Q t g p ≡ named_type P t g p
  unfolding named_type field_error field_place
  named_root (ref.Named n nullable) g p = defined_root _ g p
  named_root (ref.ListOf inner nullable) g p = refl
  named_root ref.Unknown g p = refl

  enum_root : (type : ℕ) (l : Leaf) (o : Option (List ℕ)) (g : Group) (p : Path) → enum_leaf Q type l o g p ≡ enum_leaf P type l o g p
  unfolding enum_leaf field_error field_place
  enum_root type l None g p = refl
  enum_root type l (Some s) g p = refl

  kind_root : (type : ℕ) (k : TypeKind) (l : Leaf) (g : Group) (p : Path) → leaf_at Q type k l g p ≡ leaf_at P type k l g p
  unfolding leaf_at scalar_leaf field_error field_place
  kind_root type kind.Scalar l g p = refl
  kind_root type kind.Enum l g p = enum_root type l _ g p
  kind_root type kind.Object l g p = refl
  kind_root type kind.Interface l g p = refl
  kind_root type kind.Union l g p = refl
  kind_root type kind.InputObject l g p = refl
  kind_root type kind.Unknown l g p = refl

  leaf_root : (ty : ℕ) (l : Leaf) (g : Group) (p : Path) → complete_leaf_value Q ty l g p ≡ complete_leaf_value P ty l g p
  unfolding complete_leaf_value field_error field_place
  leaf_root ty l g p = simp (named_root, kind_root)

  -- ---- the object type of an object answer

  abstract_root : (possible : ℕ → Bool) (e : FieldError) (o : Option ℕ) (g : Group) (p : Path)
      → resolve_abstract_type Q possible e o g p ≡ resolve_abstract_type P possible e o g p
  unfolding resolve_abstract_type field_error field_place
  abstract_root possible e None g p = refl
  abstract_root possible e (Some type) g p = refl

  type_root : (type : ℕ) (k : TypeKind) (n : ℕ) (g : Group) (p : Path) → object_type Q type k n g p ≡ object_type P type k n g p
  unfolding object_type object_named field_error field_place
  type_root type kind.Scalar n g p = refl
  type_root type kind.Enum n g p = refl
  type_root type kind.Object n g p = refl
  type_root type kind.Interface n g p = abstract_root _ _ _ g p
  type_root type kind.Union n g p = abstract_root _ _ _ g p
  type_root type kind.InputObject n g p = refl
  type_root type kind.Unknown n g p = refl

  -- ---- the walk, whatever is done one level down

  module _ (rec : Task → Path → M Val) where
    group_root : (type : ℕ) (rows : Range) (p : Path) (g : Group) (o : Option Definition) → execute_group Q rec type rows p g o ≡ execute_group P rec type rows p g o
    unfolding execute_group
    group_root type rows p g None = refl
    group_root type rows p g (Some d) = refl

    set_below : (type : ℕ) (rows : Range) (set : List ℕ) (p : Path) → execute_selection_set Q rec type rows set p ≡ execute_selection_set P rec type rows set p
    unfolding execute_selection_set definition_of field_name
    set_below type rows set p = simp group_root

    object_root : (ty n : ℕ) (rows : Range) (g : Group) (p : Path) → complete_object_value Q rec ty n rows g p ≡ complete_object_value P rec ty n rows g p
    unfolding complete_object_value
    object_root ty n rows g p = simp (named_root, type_root, merge_root, set_below)

    list_root : (t : TypeRef) (rows : List ℕ) (g : Group) (args : Arguments) (p : Path)
        → complete_list_value Q rec t rows g args p ≡ complete_list_value P rec t rows g args p
    unfolding complete_list_value complete_items field_error field_place
    list_root (ref.Named n nullable) rows g args p = refl
    list_root (ref.ListOf inner nullable) rows g args p = refl
    list_root ref.Unknown rows g args p = refl

    value_root : (ty : ℕ) (v : Given) (g : Group) (args : Arguments) (p : Path) → complete_value Q rec ty v g args p ≡ complete_value P rec ty v g args p
    unfolding complete_value
    value_root ty (a_leaf l) g args p = leaf_root ty l g p
    value_root ty (a_list rows) g args p = list_root _ rows g args p
    value_root ty (an_object n rows) g args p = object_root ty n rows g p

    resolved_root : (ty : ℕ) (r : Resolved) (g : Group) (args : Arguments) (p : Path) → complete_resolved Q rec ty r g args p ≡ complete_resolved P rec ty r g args p
    unfolding complete_resolved field_error field_place
    resolved_root ty a_skip g args p = refl
    resolved_root ty an_error g args p = refl
    resolved_root ty (given v) g args p = value_root ty v g args p

    item_root : (ty : ℕ) (r : Resolved) (g : Group) (args : Arguments) (p : Path) → complete_item Q rec ty r g args p ≡ complete_item P rec ty r g args p
    unfolding complete_item field_place
    item_root ty a_skip g args p = refl
    item_root ty an_error g args p = refl
    item_root ty (given v) g args p = rw (value_root ty v g args p)

    field_root : (type : ℕ) (rows : Range) (g : Group) (d : Definition) (p : Path) → execute_field Q rec type rows g d p ≡ execute_field P rec type rows g d p
    unfolding execute_field attached_type field_name coerce_arguments resolve_field_value
    field_root type rows g typename p = value_root _ _ g [] p
    field_root type rows g (defined f) p = simp (answer_root, resolved_root)

    step_root : (t : Task) (p : Path) → step Q rec t p ≡ step P rec t p
    unfolding step
    step_root (a_field type rows g d) p = field_root type rows g d p
    step_root (an_item ty row g args) p = simp (resolve_root, item_root)

  -- ---- a walk

  task_root : (room : ℕ) (t : Task) (p : Path) → run Q room t p ≡ run P room t p
  unfolding run
  task_root zero t p = refl
  task_root (suc room) t p = ap (λ rec. step Q rec t p) (λ i t' p'. task_root room t' p' i) ∙ step_root (run P room) t p

  pub run_root : (room : ℕ) → run Q room ≡ run P room
  run_root room = λ i t p. task_root room t p i

  pub set_root : (room object : ℕ) (rows : Range) (set : List ℕ) (p : Path)
      → execute_selection_set Q (run Q room) object rows set p ≡ execute_selection_set P (run P room) object rows set p
  set_root room object rows set p =
      ap (λ rec. execute_selection_set Q rec object rows set p) (run_root room) ∙ set_below (run P room) object rows set p

  pub execute_root : execute Q ≡ execute_selection_set P (run P most_segments) root (rows_of_object (answer_at answers 0)) (selections_of sets 0) []
  unfolding execute
  execute_root = set_root most_segments root (rows_of_object (answer_at answers 0)) (selections_of sets 0) []
