-- ExecuteSelectionSet (October 2021, section 6.3), ExecuteField and CompleteValue (sections 6.4 to 6.4.4) and the handling of field errors.
-- Each takes `rec`, which does a task one path segment further down. Read it after Request and Data.
use Rattle.std.specs.Prelude.{List, [], ◌∷◌, ◌++◌, map, Bool, true, false, not, cond, ◌&&◌, ◌||◌, ℕ, zero, suc, leb, eqb}
use Rattle.std.specs.Prelude.{Option, Some, None}
use Rattle.rows.specs.Names.{name_text, 'typename, 'Int, 'Float, 'String, 'Boolean, 'ID}
use Rattle.rows.specs.Schema.{type_ref_at, type_at, field_at}
use Rattle.rows.specs.Document.{selection_at, field_selection}
use Rattle.rows.specs.Answers.{answer_at}
use Rattle.rows.specs.declared.layout.Range.{Range}
use Rattle.rows.specs.declared.schema.TypeRef.{TypeRef}
use Rattle.rows.specs.declared.schema.TypeRef.TheVariants as ref
use Rattle.rows.specs.declared.schema.TypeKind.{TypeKind}
use Rattle.rows.specs.declared.schema.TypeKind.TheVariants as kind
use Rattle.rows.specs.declared.answers.Answer.{Answer}
use Rattle.rows.specs.declared.answers.Answer.TheVariants as answer
use Rattle.rules.specs.Schema.{object_kind}
use Rattle.tables.specs.Tables.{Tables}
use Rattle.codes.specs.declared.errors.FieldError.{FieldError}
use Rattle.codes.specs.declared.errors.FieldError.TheVariants as error
use Rattle.codes.specs.Outcome.{too_far, most_open, most_segments}
use Rattle.graphql.specs.Run.{Path, name, index, skipped, here, past_list, M, pure, halt, fail, or_else, passed, when, note, any_order, in_order, ◌>>=◌}
use Rattle.graphql.specs.Json.{Json, null, string, containers, a_null, a_boolean, an_int, a_long, a_float, a_string, is_a, string_of}
use Rattle.graphql.specs.Data.{Data, nulled, leaf, list, object, Val, absent, val, entries, fields}
use Rattle.graphql.specs.Errors.{error_of}
use Rattle.graphql.specs.Lookup.{rows_in, non_null, type_named, lists, has_value, field_named, selections_of, field_answer}
use Rattle.graphql.specs.Collect.{Group, collect}
use Rattle.graphql.specs.Values.{node_value}
use Rattle.graphql.specs.Coerce.{Arguments, argument_named, coerce_argument_values}
use Rattle.graphql.specs.Request.{Request}

-- A leaf that a resolver gave, and where it came from: an answer (a row), an argument that is echoed (its name), the object's own type name.
-- Where it came from is what the message of an error would speak of; no record has it today.
pub data Origin : Type 0 where
  from_answer : ℕ → Origin
  from_argument : ℕ → Origin
  from_type : Origin

pub record Leaf : Type 0 where
  pub origin : Origin
  pub json : Json

-- What a resolver gave: a leaf, a list of answers (rows), an object (the name of its type, and the rows that answer its fields); or it gave
-- nothing, but a skip or an error.
pub data Given : Type 0 where
  a_leaf : Leaf → Given
  a_list : List ℕ → Given
  an_object : (name : ℕ) → Range → Given

pub data Resolved : Type 0 where
  a_skip : Resolved
  an_error : Resolved
  given : Given → Resolved

-- The own definition of a field: `__typename` has the type `String!` and no arguments.
pub data Definition : Type 0 where
  typename : Definition
  defined : ℕ → Definition

-- What is done at a place in the response: a field of an object (its type and the rows that answer it), by the group that asks for it and the
-- field's own definition; or an item of a list (the type of items and the item's answer), by the group and the field's arguments.
pub data Task : Type 0 where
  a_field : (type : ℕ) → Range → Group → Definition → Task
  an_item : (ty answer : ℕ) → Group → Arguments → Task

-- the rows that answer the fields of an object; any other answer has none
unfoldable pub rows_of_object : Answer → Range
rows_of_object answer.Skip = record { first = 0; count = 0 }
rows_of_object answer.Error = record { first = 0; count = 0 }
rows_of_object (answer.Leaf node) = record { first = 0; count = 0 }
rows_of_object (answer.List rows) = record { first = 0; count = 0 }
rows_of_object (answer.Object n rows) = rows
rows_of_object (answer.Echo n) = record { first = 0; count = 0 }
rows_of_object answer.Unknown = record { first = 0; count = 0 }

unfoldable pub numbered : ℕ → List ℕ → List (ℕ × ℕ)
numbered i [] = []
numbered i (a ∷ l) = (i, a) ∷ numbered (suc i) l

-- The Rust's `try_nullify` (section 6.4.4): null where `m` fails, unless the place is non-null.
unfoldable pub try_nullify : (non_null : Bool) → M Val → M Val
try_nullify true m = m
try_nullify false m = or_else (val nulled) m

-- Whether a scalar type of this name takes a value. "Int: a signed 64-bit integer that fits 32 bits. Float: a float only. ID: string or
-- signed 64-bit integer. .. Other scalars: any JSON."
unfoldable pub takes : (scalar : ℕ) → Json → Bool
takes n j =
    cond (eqb n 'Int) (is_a an_int j)
    (cond (eqb n 'Float) (is_a a_float j)
    (cond (eqb n 'String) (is_a a_string j)
    (cond (eqb n 'Boolean) (is_a a_boolean j)
    (cond (eqb n 'ID) (is_a a_string j || (is_a an_int j || is_a a_long j))
    true))))

module _ (Q : Request) where
  abbrev T : Tables
  T = Q.tables

  -- ---- The fields of a group

  -- the first field's name, attached type and place
  unfoldable pub field_name : Group → ℕ
  field_name g = (field_selection T.selections g.first).name

  unfoldable pub attached_type : Group → ℕ
  attached_type g = (field_selection T.selections g.first).ty

  unfoldable pub field_place : Group → ℕ
  field_place g = (selection_at T.selections g.first).place

  -- an error at the first field
  unfoldable pub field_error : {A : Type 0} → FieldError → Group → Path → M A
  field_error e g p = fail here (error_of e (field_place g) 0 0 p)

  -- MergeSelectionSets(fields); a field whose child set is 0 has none
  unfoldable pub merge_selection_sets : List ℕ → List ℕ
  merge_selection_sets [] = []
  merge_selection_sets (row ∷ rest) =
      let set = (field_selection T.selections row).set in
      let rows = selections_of T.sets set in
      cond (eqb set 0) [] rows ++ merge_selection_sets rest

  -- the definition of a field of an object type
  unfoldable pub definition_of : (type n : ℕ) → Option Definition
  definition_of type n =
      let own = elim (field_named T.types T.fields type n) as (λ o. Option Definition) [ None ↦ None | Some f ↦ Some (defined f) ] in
      cond (eqb n 'typename) (Some typename) own

  unfoldable pub coerce_arguments : Path → (definitions written : Range) → M Arguments
  coerce_arguments =
      coerce_argument_values T.pool T.names T.refs T.types T.fields T.nodes T.literals T.variables T.arguments T.given

  -- ---- ResolveFieldValue (section 6.4.2)

  -- "A leaf's or echo's containers count as it is taken, ahead of its type". An echo without its argument is an error.
  unfoldable pub echoed : (n : ℕ) → Option Json → M Resolved
  echoed n None = pure an_error
  echoed n (Some j) = when (leb (containers j) most_open) (pure (given (a_leaf (record { origin = from_argument n; json = j })))) (halt too_far)

  unfoldable pub resolved : Arguments → (row : ℕ) → Answer → M Resolved
  resolved args row answer.Skip = pure a_skip
  resolved args row answer.Error = pure an_error
  resolved args row (answer.Leaf node) = do
    j ← node_value T.pool T.nodes most_open node
    pure (given (a_leaf (record { origin = from_answer row; json = j })))
  resolved args row (answer.List rows) = pure (given (a_list (rows_in rows)))
  resolved args row (answer.Object n rows) = pure (given (an_object n rows))
  resolved args row (answer.Echo n) = echoed n (argument_named n args)
  resolved args row answer.Unknown = pure an_error

  -- "takes the answer (no row is an error)"
  unfoldable pub answered : Arguments → Option ℕ → M Resolved
  answered args None = pure an_error
  answered args (Some row) = resolved args row (answer_at T.answers row)

  -- ResolveFieldValue(objectType, objectValue, fieldName, argumentValues)
  unfoldable pub resolve_field_value : Range → (n : ℕ) → Arguments → M Resolved
  resolve_field_value object_rows n args = answered args (field_answer T.answers object_rows n)

  -- ---- CompleteValue (section 6.4.3): the type, leaves

  -- "then list type without a list; undefined type": the type at which a leaf or an object is completed
  unfoldable pub type_defined : Option ℕ → Group → Path → M ℕ
  type_defined None g p = field_error error.UndefinedType g p
  type_defined (Some type) g p = pure type

  unfoldable pub named_type : TypeRef → Group → Path → M ℕ
  named_type (ref.Named n nullable) g p = type_defined (type_named T.types n) g p
  named_type (ref.ListOf inner nullable) g p = field_error error.ListTypeWithoutList g p
  named_type ref.Unknown g p = field_error error.UndefinedType g p

  unfoldable pub scalar_leaf : (scalar : ℕ) → Leaf → Group → Path → M Val
  scalar_leaf n l g p =
      when (takes n l.json) (pure (val (leaf l.json)))
      (field_error (cond (eqb n 'Int && is_a a_long l.json) error.IntOverflow error.LeafOfAnotherKind) g p)

  -- "Enum: a string naming a value."
  unfoldable pub enum_leaf : (type : ℕ) → Leaf → Option (List ℕ) → Group → Path → M Val
  enum_leaf type l None g p = field_error error.NotAnEnumValue g p
  enum_leaf type l (Some s) g p =
      when (has_value T.pool T.names T.types T.members type s) (pure (val (leaf l.json))) (field_error error.NotAnEnumValue g p)

  unfoldable pub leaf_at : (type : ℕ) → TypeKind → Leaf → Group → Path → M Val
  leaf_at type kind.Scalar l g p = scalar_leaf (type_at T.types type).name l g p
  leaf_at type kind.Enum l g p = enum_leaf type l (string_of l.json) g p
  leaf_at type kind.Object l g p = field_error error.LeafForComposite g p
  leaf_at type kind.Interface l g p = field_error error.LeafForComposite g p
  leaf_at type kind.Union l g p = field_error error.LeafForComposite g p
  leaf_at type kind.InputObject l g p = field_error error.InputObjectType g p
  leaf_at type kind.Unknown l g p = field_error error.UndefinedType g p

  -- CompleteValue of a leaf; a null comes before everything else
  unfoldable pub complete_leaf_value : (ty : ℕ) → Leaf → Group → Path → M Val
  complete_leaf_value ty l g p =
      when (is_a a_null l.json)
      (when (non_null T.refs ty) (field_error error.NullForNonNull g p) (pure (val (leaf null))))
      (do
        type ← named_type (type_ref_at T.refs ty) g p
        leaf_at type (type_at T.types type).kind l g p)

  -- ---- The object type of an object answer (section 6.4.3)

  -- the object type of this name, if there is one
  unfoldable pub object_named : ℕ → Option ℕ
  object_named n =
      elim (type_named T.types n) as (λ o. Option ℕ) [ None ↦ None | Some type ↦ cond (object_kind (type_at T.types type).kind) (Some type) None ]

  -- ResolveAbstractType(abstractType, objectValue): the object type that the answer names, if it is one of the possible ones
  unfoldable pub resolve_abstract_type : (possible : ℕ → Bool) → FieldError → Option ℕ → Group → Path → M ℕ
  resolve_abstract_type possible e None g p = field_error error.ObjectTypeUnknown g p
  resolve_abstract_type possible e (Some type) g p = when (possible type) (pure type) (field_error e g p)

  unfoldable pub object_type : (type : ℕ) → TypeKind → (name : ℕ) → Group → Path → M ℕ
  object_type type kind.Scalar n g p = field_error error.ObjectForLeafType g p
  object_type type kind.Enum n g p = field_error error.ObjectForLeafType g p
  object_type type kind.Object n g p = when (eqb n (type_at T.types type).name) (pure type) (field_error error.OtherObjectType g p)
  object_type type kind.Interface n g p =
      resolve_abstract_type (λ object. lists T.types T.members object (type_at T.types type).name) error.NotImplementing (object_named n) g p
  object_type type kind.Union n g p = resolve_abstract_type (λ object. lists T.types T.members type n) error.NotInUnion (object_named n) g p
  object_type type kind.InputObject n g p = field_error error.InputObjectType g p
  object_type type kind.Unknown n g p = field_error error.UndefinedType g p

  -- ---- The walk: `rec` does a task one level down
  module _ (rec : Task → Path → M Val) where
    -- "A group whose first field isn't defined on the object is left out."
    unfoldable pub execute_group : (type : ℕ) → Range → Path → Group → Option Definition → M Val
    execute_group type object_rows p g None = pure absent
    execute_group type object_rows p g (Some d) = rec (a_field type object_rows g d) (p ++ (name g.key ∷ []))

    -- ExecuteSelectionSet(selectionSet, objectType, objectValue, variableValues)
    unfoldable pub execute_selection_set : (type : ℕ) → Range → List ℕ → Path → M Data
    execute_selection_set type object_rows selections p = do
      groups ← collect T.types T.members T.sets T.selections T.fragments T.variables T.nodes type selections
      vs ← any_order (λ g. execute_group type object_rows p g (definition_of type (field_name g))) p groups
      pure (object (fields (map (λ g. name_text T.pool T.names g.key) groups) vs))

    -- CompleteValue of an object
    unfoldable pub complete_object_value : (ty name : ℕ) → Range → Group → Path → M Val
    complete_object_value ty n object_rows g p = do
      type ← named_type (type_ref_at T.refs ty) g p
      object_type ← object_type type (type_at T.types type).kind n g p
      d ← execute_selection_set object_type object_rows (merge_selection_sets (g.first ∷ g.more)) p
      pure (val d)

    -- CompleteValue of a list. An item that fails was nulled in `complete_item` where items may be null; here the list is where it may be,
    -- and an error answer has passed it.
    unfoldable pub complete_items : (nullable : Bool) (inner : ℕ) → List ℕ → Group → Arguments → Path → M Val
    complete_items nullable inner rows g args p = passed (try_nullify (not nullable) (do
      vs ← in_order (λ ia. rec (an_item inner ia.1 g args) (p ++ (index ia.0 ∷ []))) (numbered 0 rows)
      pure (val (list (entries vs)))))

    unfoldable pub complete_list_value : TypeRef → List ℕ → Group → Arguments → Path → M Val
    complete_list_value (ref.Named n nullable) rows g args p = field_error error.ListForNonListType g p
    complete_list_value (ref.ListOf inner nullable) rows g args p = complete_items nullable inner rows g args p
    complete_list_value ref.Unknown rows g args p = field_error error.UndefinedType g p

    -- CompleteValue(fieldType, fields, result, variableValues): ".. null; list; then list type without a list; undefined type; input object;
    -- leaf or object"
    unfoldable pub complete_value : (ty : ℕ) → Given → Group → Arguments → Path → M Val
    complete_value ty (a_leaf l) g args p = complete_leaf_value ty l g p
    complete_value ty (a_list rows) g args p = complete_list_value (type_ref_at T.refs ty) rows g args p
    complete_value ty (an_object n object_rows) g args p = complete_object_value ty n object_rows g p

    -- a field's value: "skip (a field is left out)", or the resolver's error
    unfoldable pub complete_resolved : (ty : ℕ) → Resolved → Group → Arguments → Path → M Val
    complete_resolved ty a_skip g args p = pure absent
    complete_resolved ty an_error g args p = field_error error.Resolver g p
    complete_resolved ty (given r) g args p = complete_value ty r g args p

    -- an item: "An error answer inside a list fails the list itself" (a listed difference: the specification nulls the item);
    -- "A skipped item is dropped and still counted in later indices."
    unfoldable pub complete_item : (ty : ℕ) → Resolved → Group → Arguments → Path → M Val
    complete_item ty a_skip g args p = note (skipped p) (pure absent)
    complete_item ty an_error g args p = fail past_list (error_of error.Resolver (field_place g) 0 0 p)
    complete_item ty (given r) g args p = try_nullify (non_null T.refs ty) (complete_value ty r g args p)

    -- ExecuteField(objectType, objectValue, fieldType, fields, variableValues): "coerces arguments by the object's own definition, then
    -- takes the answer .., then completes against the attached type of the first field; a failure becomes null if the object's own type
    -- is nullable and otherwise goes up". The attached type where the specification uses the object's own is a listed difference.
    -- `__typename` "answers the object type's name, and is completed against its row's attached type"; its own type is non-null.
    unfoldable pub execute_field : (type : ℕ) → Range → Group → Definition → Path → M Val
    execute_field type object_rows g typename p =
        complete_value (attached_type g) (a_leaf (record { origin = from_type; json = string (name_text T.pool T.names (type_at T.types type).name) })) g [] p
    execute_field type object_rows g (defined f) p = try_nullify (non_null T.refs (field_at T.fields f).ty) (do
      args ← coerce_arguments p (field_at T.fields f).arguments (field_selection T.selections g.first).given
      r ← resolve_field_value object_rows (field_name g) args
      complete_resolved (attached_type g) r g args p)

    unfoldable pub step : Task → Path → M Val
    step (a_field type object_rows g d) p = execute_field type object_rows g d p
    step (an_item ty answer g args) p = do
      r ← resolved args answer (answer_at T.answers answer)
      complete_item ty r g args p

  -- Code 3: "a path over 32 segments". `room` is how many segments may still be added.
  unfoldable pub run : ℕ → Task → Path → M Val
  run zero t p = halt too_far
  run (suc room) t p = step (λ t' p'. run room t' p') t p

  -- a whole walk: "The first is the root and is an object; a run starts from the root type and doesn't look at that answer's type name"
  unfoldable pub execute : M Data
  execute = execute_selection_set (run most_segments) T.root (rows_of_object (answer_at T.answers 0)) (selections_of T.sets 0) []
