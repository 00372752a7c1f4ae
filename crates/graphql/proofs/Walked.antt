-- What holds of every way in which a walk is put together holds of the walk: a property of computations that all the combinators keep is one of each
-- definition of Complete, as `Closed` says of what a field asks before it is completed. One lemma for each definition. Assumes nothing.
use mathlib.Core.List.{List, []}
use mathlib.Core.Bool.{Bool, true, false}
use Rattle.std.specs.Prelude.{Option, Some, None}
use Prim.Native.Nat.{ℕ, zero, suc}
use Rattle.rows.specs.declared.layout.Range.{Range}
use Rattle.rows.specs.declared.schema.TypeRef.{TypeRef}
use Rattle.rows.specs.declared.schema.TypeRef.TheVariants as ref
use Rattle.rows.specs.declared.schema.TypeKind.{TypeKind}
use Rattle.rows.specs.declared.schema.TypeKind.TheVariants as kind
use Rattle.rows.specs.declared.answers.Answer.{Answer}
use Rattle.codes.specs.declared.errors.FieldError.{FieldError}
use Rattle.codes.specs.Outcome.{too_far}
use Rattle.graphql.specs.Run.{Path, Event, past_list, M, pure, halt, fail, or_else, passed, when, note, any_order, in_order, ◌>>=◌}
use Rattle.graphql.specs.Errors.{error_of}
use Rattle.graphql.specs.Data.{Data, Val}
use Rattle.graphql.specs.Collect.{Group, collect}
use Rattle.graphql.specs.Coerce.{Arguments}
use Rattle.graphql.specs.Request.{Request}
use Rattle.graphql.specs.Complete.{Leaf, Given, a_leaf, a_list, an_object, Resolved, a_skip, an_error, given, Definition, typename, defined, Task, a_field, an_item, try_nullify, field_error, coerce_arguments, resolved, resolve_field_value, type_defined, named_type, scalar_leaf, enum_leaf, leaf_at, complete_leaf_value, resolve_abstract_type, object_type, execute_group, execute_selection_set, complete_object_value, complete_items, complete_list_value, complete_value, complete_resolved, complete_item, execute_field, step, run, execute}
use Rattle.graphql.proofs.Closed.{Closed, collect_closed, coerce_arguments_closed, resolved_closed, resolve_field_value_closed}

-- A property that each combinator keeps, wherever the errors are made.
pub record Kept (P : (A : Type 0) → M A → Type 0) : Type 1 where
  pub closed : (p : Path) → Closed P p
  pub of_error_item : {A : Type 0} (e : FieldError) (field definition literal : ℕ) (p : Path)
      → P A (fail past_list (error_of e field definition literal p))
  pub of_or_else : {A : Type 0} (a : A) {m : M A} → P A m → P A (or_else a m)
  pub of_passed : {A : Type 0} {m : M A} → P A m → P A (passed m)
  pub of_note : {A : Type 0} (e : Event) {m : M A} → P A m → P A (note e m)
  pub of_any_order : {G B : Type 0} {run : G → M B} → ((g : G) → P B (run g)) → (p : Path) (gs : List G) → P (List B) (any_order run p gs)

module _ {P : (A : Type 0) → M A → Type 0} (K : Kept P) where
  k_pure : {A : Type 0} (a : A) → P A (pure a)
  k_pure a = (K.closed []).of_pure a

  k_far : {A : Type 0} → P A (halt too_far)
  k_far = (K.closed []).of_far

  k_when : {A : Type 0} (b : Bool) {m n : M A} → P A m → P A n → P A (when b m n)
  k_when b h k = (K.closed []).of_when b h k

  k_bind : {A B : Type 0} {m : M A} {k : A → M B} → P A m → ((a : A) → P B (k a)) → P B (m >>= k)
  k_bind h k = (K.closed []).of_bind h k

  k_in_order : {G B : Type 0} {run : G → M B} → ((g : G) → P B (run g)) → (gs : List G) → P (List B) (in_order run gs)
  k_in_order h gs = (K.closed []).of_in_order h gs

  k_passed : {A : Type 0} {m : M A} → P A m → P A (passed m)
  k_passed h = K.of_passed h

  k_note : {A : Type 0} (e : Event) {m : M A} → P A m → P A (note e m)
  k_note e h = K.of_note e h

  k_any_order : {G B : Type 0} {run : G → M B} → ((g : G) → P B (run g)) → (p : Path) (gs : List G) → P (List B) (any_order run p gs)
  k_any_order h p gs = K.of_any_order h p gs

  ruleset kept = (k_pure, k_far, k_when, k_bind, k_in_order, k_passed, k_note, k_any_order)

  try_nullify_kept : (b : Bool) {m : M Val} → P Val m → P Val (try_nullify b m)
  unfolding try_nullify
  try_nullify_kept true h = h
  try_nullify_kept false h = K.of_or_else _ h

  module _ (Q : Request) where
    field_error_kept : {A : Type 0} (e : FieldError) (g : Group) (p : Path) → P A (field_error Q e g p)
    unfolding field_error
    field_error_kept e g p = (K.closed p).of_error _ _ _ _

    collect_kept : (type : ℕ) (rows : List ℕ) → P (List Group) (collect Q.tables.types Q.tables.members Q.tables.sets Q.tables.selections Q.tables.fragments Q.tables.variables Q.tables.nodes type rows)
    collect_kept type rows = collect_closed (K.closed []) _ _ _ _ _ _ _ type rows

    arguments_kept : (p : Path) (definitions written : Range) → P Arguments (coerce_arguments Q p definitions written)
    arguments_kept p definitions written = coerce_arguments_closed (K.closed p) Q definitions written

    resolved_kept : (args : Arguments) (row : ℕ) (a : Answer) → P Resolved (resolved Q args row a)
    resolved_kept args row a = resolved_closed (K.closed []) Q args row a

    field_resolved : (rows : Range) (n : ℕ) (args : Arguments) → P Resolved (resolve_field_value Q rows n args)
    field_resolved rows n args = resolve_field_value_closed (K.closed []) Q rows n args

    type_defined_kept : (type : Option ℕ) (g : Group) (p : Path) → P ℕ (type_defined Q type g p)
    unfolding type_defined
    type_defined_kept None g p = search field_error_kept
    type_defined_kept (Some type) g p = search kept

    named_type_kept : (t : TypeRef) (g : Group) (p : Path) → P ℕ (named_type Q t g p)
    unfolding named_type
    named_type_kept (ref.Named n nullable) g p = type_defined_kept _ g p
    named_type_kept (ref.ListOf inner nullable) g p = search field_error_kept
    named_type_kept ref.Unknown g p = search field_error_kept

    scalar_leaf_kept : (n : ℕ) (l : Leaf) (g : Group) (p : Path) → P Val (scalar_leaf Q n l g p)
    unfolding scalar_leaf
    scalar_leaf_kept n l g p = search (kept, field_error_kept)

    enum_leaf_kept : (type : ℕ) (l : Leaf) (s : Option (List ℕ)) (g : Group) (p : Path) → P Val (enum_leaf Q type l s g p)
    unfolding enum_leaf
    enum_leaf_kept type l None g p = search field_error_kept
    enum_leaf_kept type l (Some s) g p = search (kept, field_error_kept)

    leaf_at_kept : (type : ℕ) (k : TypeKind) (l : Leaf) (g : Group) (p : Path) → P Val (leaf_at Q type k l g p)
    unfolding leaf_at
    leaf_at_kept type kind.Scalar l g p = scalar_leaf_kept _ l g p
    leaf_at_kept type kind.Enum l g p = enum_leaf_kept type l _ g p
    leaf_at_kept type kind.Object l g p = search field_error_kept
    leaf_at_kept type kind.Interface l g p = search field_error_kept
    leaf_at_kept type kind.Union l g p = search field_error_kept
    leaf_at_kept type kind.InputObject l g p = search field_error_kept
    leaf_at_kept type kind.Unknown l g p = search field_error_kept

    pub leaf_kept : (ty : ℕ) (l : Leaf) (g : Group) (p : Path) → P Val (complete_leaf_value Q ty l g p)
    unfolding complete_leaf_value
    leaf_kept ty l g p = search (kept, field_error_kept, named_type_kept, leaf_at_kept)

    abstract_kept : (possible : ℕ → Bool) (e : FieldError) (type : Option ℕ) (g : Group) (p : Path) → P ℕ (resolve_abstract_type Q possible e type g p)
    unfolding resolve_abstract_type
    abstract_kept possible e None g p = search field_error_kept
    abstract_kept possible e (Some type) g p = search (kept, field_error_kept)

    object_type_kept : (type : ℕ) (k : TypeKind) (n : ℕ) (g : Group) (p : Path) → P ℕ (object_type Q type k n g p)
    unfolding object_type
    object_type_kept type kind.Scalar n g p = search field_error_kept
    object_type_kept type kind.Enum n g p = search field_error_kept
    object_type_kept type kind.Object n g p = search (kept, field_error_kept)
    object_type_kept type kind.Interface n g p = abstract_kept _ _ _ g p
    object_type_kept type kind.Union n g p = abstract_kept _ _ _ g p
    object_type_kept type kind.InputObject n g p = search field_error_kept
    object_type_kept type kind.Unknown n g p = search field_error_kept

    module _ {rec : Task → Path → M Val} (h : (t : Task) (p : Path) → P Val (rec t p)) where
      pub group_kept : (type : ℕ) (rows : Range) (p : Path) (g : Group) (d : Option Definition) → P Val (execute_group Q rec type rows p g d)
      unfolding execute_group
      group_kept type rows p g None = search kept
      group_kept type rows p g (Some d) = h _ _

      pub set_kept : (type : ℕ) (rows : Range) (selections : List ℕ) (p : Path) → P Data (execute_selection_set Q rec type rows selections p)
      unfolding execute_selection_set
      set_kept type rows selections p = search (kept, collect_kept, group_kept)

      object_value_kept : (ty n : ℕ) (rows : Range) (g : Group) (p : Path) → P Val (complete_object_value Q rec ty n rows g p)
      unfolding complete_object_value
      object_value_kept ty n rows g p = search (kept, named_type_kept, object_type_kept, set_kept)

      items_kept : (nullable : Bool) (inner : ℕ) (rows : List ℕ) (g : Group) (args : Arguments) (p : Path) → P Val (complete_items Q rec nullable inner rows g args p)
      unfolding complete_items
      items_kept nullable inner rows g args p = search (kept, try_nullify_kept)

      list_kept : (t : TypeRef) (rows : List ℕ) (g : Group) (args : Arguments) (p : Path) → P Val (complete_list_value Q rec t rows g args p)
      unfolding complete_list_value
      list_kept (ref.Named n nullable) rows g args p = search field_error_kept
      list_kept (ref.ListOf inner nullable) rows g args p = items_kept nullable inner rows g args p
      list_kept ref.Unknown rows g args p = search field_error_kept

      value_kept : (ty : ℕ) (r : Given) (g : Group) (args : Arguments) (p : Path) → P Val (complete_value Q rec ty r g args p)
      unfolding complete_value
      value_kept ty (a_leaf l) g args p = leaf_kept ty l g p
      value_kept ty (a_list rows) g args p = list_kept _ rows g args p
      value_kept ty (an_object n rows) g args p = object_value_kept ty n rows g p

      resolved_value_kept : (ty : ℕ) (r : Resolved) (g : Group) (args : Arguments) (p : Path) → P Val (complete_resolved Q rec ty r g args p)
      unfolding complete_resolved
      resolved_value_kept ty a_skip g args p = search kept
      resolved_value_kept ty an_error g args p = search field_error_kept
      resolved_value_kept ty (given r) g args p = value_kept ty r g args p

      item_kept : (ty : ℕ) (r : Resolved) (g : Group) (args : Arguments) (p : Path) → P Val (complete_item Q rec ty r g args p)
      unfolding complete_item
      item_kept ty a_skip g args p = search kept
      item_kept ty an_error g args p = K.of_error_item _ _ _ _ _
      item_kept ty (given r) g args p = try_nullify_kept _ (value_kept ty r g args p)

      field_kept : (type : ℕ) (rows : Range) (g : Group) (d : Definition) (p : Path) → P Val (execute_field Q rec type rows g d p)
      unfolding execute_field
      field_kept type rows g typename p = search value_kept
      field_kept type rows g (defined f) p = search (kept, try_nullify_kept, arguments_kept, field_resolved, resolved_value_kept)

      step_kept : (t : Task) (p : Path) → P Val (step Q rec t p)
      unfolding step
      step_kept (a_field type rows g d) p = field_kept type rows g d p
      step_kept (an_item ty answer g args) p = search (kept, resolved_kept, item_kept)

    pub run_kept : (room : ℕ) (t : Task) (p : Path) → P Val (run Q room t p)
    unfolding run
    run_kept zero t p = search kept
    run_kept (suc room) t p = step_kept (run_kept room) t p

    pub execute_kept : P Data (execute Q)
    unfolding execute
    execute_kept = set_kept (run_kept 32) _ _ _ _
