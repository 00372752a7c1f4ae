-- Where no list item is skipped, each null that no resolver answered has an error record at its place or below: it stands where a failure
-- was caught, a failure logs a record at its own path, and it is caught at that path or above. One lemma for each definition. Assumes
-- nothing.
use mathlib.Core.Path.{◌≡◌, refl, sym, subst}
use mathlib.Core.List.{List, [], ◌∷◌, ◌++◌, mem-cons_of_mem, mem-cons_self}
use mathlib.Core.Bool.{Bool, true, false, not}
use Rattle.std.specs.Prelude.{Option, Some, None}
use Prim.Native.Nat.{ℕ, zero, suc}
use Rattle.rows.specs.declared.layout.Range.{Range}
use Rattle.rows.specs.declared.schema.TypeRef.{TypeRef}
use Rattle.rows.specs.declared.schema.TypeRef.TheVariants as ref
use Rattle.rows.specs.declared.schema.TypeKind.{TypeKind}
use Rattle.rows.specs.declared.schema.TypeKind.TheVariants as kind
use Rattle.codes.specs.declared.errors.FieldError.{FieldError}
use Rattle.graphql.specs.Run.{name, index, Path, skipped, Log, M, pure, ◌>>=◌}
use Rattle.graphql.specs.Json.{Json}
use Rattle.graphql.specs.Data.{leaf, Val, absent, val}
use Rattle.graphql.specs.Errors.{error_of}
use Rattle.graphql.specs.Collect.{Group}
use Rattle.graphql.specs.Coerce.{Arguments}
use Rattle.graphql.specs.Request.{Request}
use Rattle.graphql.specs.Complete.{Leaf, Given, a_leaf, a_list, an_object, Resolved, a_skip, an_error, given, Definition, typename, defined, Task, a_field, an_item, numbered, try_nullify, field_error, type_defined, named_type, scalar_leaf, enum_leaf, leaf_at, complete_leaf_value, resolve_abstract_type, object_type, execute_group, execute_selection_set, complete_object_value, complete_items, complete_list_value, complete_value, complete_resolved, complete_item, execute_field, step, run, execute}
use Rattle.graphql.specs.Demand3.{spot_of_path}
use Rattle.graphql.proofs.Meets.{Meets, Mono, meets_pure, meets_halt, meets_fail, meets_or_else, meets_passed, meets_when, meets_weaken, meets_note, meets_map, meets_then, meets_in_order, meets_any_order}
use Rattle.graphql.proofs.Closed.{Closed, collect_closed, coerce_arguments_closed, resolved_closed, resolve_field_value_closed}
use Rattle.graphql.proofs.Fails.{FailsIn, fails_closed}
use Rattle.graphql.proofs.Spots.{Hit, hit_more, hit_here, hit_up, covered_leaf, covered_null, FieldHere, PresentHere, DataHere, data_more, field_more, present_more, present_field, InGroup, object_hit, list_hit}

module _ (Q : Request) where
  -- A failure at `p` has its record at `p` or below.
  abbrev At : Path → Log → Type 0
  At p = Hit Q (spot_of_path Q p)

  more : (p : Path) → Mono (At p)
  more p = hit_more Q (spot_of_path Q p)

  -- a value that is done there is one that must be there, or one that may be left out
  abbrev Presents : Path → M Val → Type 0
  Presents p = Meets (At p) (PresentHere Q (spot_of_path Q p))

  abbrev Fields : Path → M Val → Type 0
  Fields p = Meets (At p) (FieldHere Q (spot_of_path Q p))

  as_field : (p : Path) {m : M Val} → Presents p m → Fields p m
  as_field p h = meets_weaken (λ w f. f) (present_field Q (spot_of_path Q p)) h

  -- what comes after something that is only asked where it fails
  then_present : {A : Type 0} (p : Path) {m : M A} {k : A → M Val} → FailsIn (At p) m → ((a : A) → Presents p (k a)) → Presents p (m >>= k)
  then_present p h k = meets_then (more p) (present_more Q (spot_of_path Q p)) h (λ a _. k a)

  then_field : {A : Type 0} (p : Path) {m : M A} {k : A → M Val} → FailsIn (At p) m → ((a : A) → Fields p (k a)) → Fields p (m >>= k)
  then_field p h k = meets_then (more p) (field_more Q (spot_of_path Q p)) h (λ a _. k a)

  error_hit : (p : Path) (e : FieldError) (field definition literal : ℕ) → At p (error_of e field definition literal p ∷ [])
  unfolding error_of
  error_hit p e field definition literal = hit_here Q _

  -- what is asked before a value is completed
  asked : (p : Path) → Closed (λ A m. FailsIn (At p) m) p
  asked p = fails_closed (more p) p (error_hit p)

  field_error_meets : {A : Type 0} {P : A → Log → Type 0} (e : FieldError) (g : Group) (p : Path) → Meets (At p) P (field_error Q e g p)
  unfolding field_error
  field_error_meets e g p = meets_fail _ _ (error_hit p e _ _ _)

  nullified_present : (b : Bool) (p : Path) {m : M Val} → Presents p m → Presents p (try_nullify b m)
  unfolding try_nullify
  nullified_present true p h = h
  nullified_present false p h = meets_or_else h (λ w e _. covered_null Q (spot_of_path Q p) w e)

  nullified_field : (b : Bool) (p : Path) {m : M Val} → Fields p m → Fields p (try_nullify b m)
  unfolding try_nullify
  nullified_field true p h = h
  nullified_field false p h = meets_or_else h (λ w e _. covered_null Q (spot_of_path Q p) w e)

  -- ---- Leaves

  leaf_presents : (j : Json) (p : Path) → Presents p (pure (val (leaf j)))
  leaf_presents j p = meets_pure _ (λ _. covered_leaf Q (spot_of_path Q p) j [])

  type_defined_fails : (type : Option ℕ) (g : Group) (p : Path) → FailsIn (At p) (type_defined Q type g p)
  unfolding type_defined
  type_defined_fails None g p = field_error_meets _ g p
  type_defined_fails (Some type) g p = meets_pure _ tt

  named_type_fails : (t : TypeRef) (g : Group) (p : Path) → FailsIn (At p) (named_type Q t g p)
  unfolding named_type
  named_type_fails (ref.Named n nullable) g p = type_defined_fails _ g p
  named_type_fails (ref.ListOf inner nullable) g p = field_error_meets _ g p
  named_type_fails ref.Unknown g p = field_error_meets _ g p

  scalar_leaf_presents : (n : ℕ) (l : Leaf) (g : Group) (p : Path) → Presents p (scalar_leaf Q n l g p)
  unfolding scalar_leaf
  scalar_leaf_presents n l g p = meets_when _ (leaf_presents _ p) (field_error_meets _ g p)

  enum_leaf_presents : (type : ℕ) (l : Leaf) (s : Option (List ℕ)) (g : Group) (p : Path) → Presents p (enum_leaf Q type l s g p)
  unfolding enum_leaf
  enum_leaf_presents type l None g p = field_error_meets _ g p
  enum_leaf_presents type l (Some s) g p = meets_when _ (leaf_presents _ p) (field_error_meets _ g p)

  leaf_at_presents : (type : ℕ) (k : TypeKind) (l : Leaf) (g : Group) (p : Path) → Presents p (leaf_at Q type k l g p)
  unfolding leaf_at
  leaf_at_presents type kind.Scalar l g p = scalar_leaf_presents _ l g p
  leaf_at_presents type kind.Enum l g p = enum_leaf_presents type l _ g p
  leaf_at_presents type kind.Object l g p = field_error_meets _ g p
  leaf_at_presents type kind.Interface l g p = field_error_meets _ g p
  leaf_at_presents type kind.Union l g p = field_error_meets _ g p
  leaf_at_presents type kind.InputObject l g p = field_error_meets _ g p
  leaf_at_presents type kind.Unknown l g p = field_error_meets _ g p

  leaf_value_presents : (ty : ℕ) (l : Leaf) (g : Group) (p : Path) → Presents p (complete_leaf_value Q ty l g p)
  unfolding complete_leaf_value
  leaf_value_presents ty l g p =
      meets_when _ (meets_when _ (field_error_meets _ g p) (leaf_presents _ p))
      (then_present p (named_type_fails _ g p) (λ type. leaf_at_presents type _ l g p))

  -- ---- Objects

  abstract_fails : (possible : ℕ → Bool) (e : FieldError) (type : Option ℕ) (g : Group) (p : Path) → FailsIn (At p) (resolve_abstract_type Q possible e type g p)
  unfolding resolve_abstract_type
  abstract_fails possible e None g p = field_error_meets _ g p
  abstract_fails possible e (Some type) g p = meets_when _ (meets_pure _ tt) (field_error_meets _ g p)

  object_type_fails : (type : ℕ) (k : TypeKind) (n : ℕ) (g : Group) (p : Path) → FailsIn (At p) (object_type Q type k n g p)
  unfolding object_type
  object_type_fails type kind.Scalar n g p = field_error_meets _ g p
  object_type_fails type kind.Enum n g p = field_error_meets _ g p
  object_type_fails type kind.Object n g p = meets_when _ (meets_pure _ tt) (field_error_meets _ g p)
  object_type_fails type kind.Interface n g p = abstract_fails _ _ _ g p
  object_type_fails type kind.Union n g p = abstract_fails _ _ _ g p
  object_type_fails type kind.InputObject n g p = field_error_meets _ g p
  object_type_fails type kind.Unknown n g p = field_error_meets _ g p

  -- what a task gives: an item is skipped or there, a field may be left out
  abbrev Gives : Task → Path → M Val → Type 0
  Gives (a_field type rows g d) p = Fields p
  Gives (an_item ty answer g args) p = Presents p

  module _ {rec : Task → Path → M Val} (h : (t : Task) (p : Path) → Gives t p (rec t p)) where
    group_meets : (type : ℕ) (rows : Range) (p : Path) (g : Group) (d : Option Definition) → Meets (At p) (InGroup Q p g) (execute_group Q rec type rows p g d)
    unfolding execute_group
    group_meets type rows p g None = meets_pure _ tt
    group_meets type rows p g (Some d) = meets_weaken (hit_up Q p (name g.key)) (λ v w k. k) (h (a_field type rows g d) (p ++ (name g.key ∷ [])))

    set_gives : (type : ℕ) (rows : Range) (selections : List ℕ) (p : Path) → Meets (At p) (DataHere Q (spot_of_path Q p)) (execute_selection_set Q rec type rows selections p)
    unfolding execute_selection_set
    set_gives type rows selections p =
        meets_then (more p) (data_more Q (spot_of_path Q p)) (collect_closed (asked p) _ _ _ _ _ _ _ type selections)
        (λ groups _. meets_map _ (meets_any_order (more p) (λ g. field_more Q (spot_of_path Q (p ++ (name g.key ∷ [])))) (λ g. group_meets type rows p g _) p groups)
        (λ vs w e n. record { hit = object_hit Q p groups vs w n e }))

    object_presents : (ty n : ℕ) (rows : Range) (g : Group) (p : Path) → Presents p (complete_object_value Q rec ty n rows g p)
    unfolding complete_object_value
    object_presents ty n rows g p =
        then_present p (named_type_fails _ g p)
        (λ type. then_present p (object_type_fails type _ n g p)
        (λ object_type. meets_map _ (set_gives object_type rows _ p) (λ d w k. k)))

    items_present : (nullable : Bool) (inner : ℕ) (rows : List ℕ) (g : Group) (args : Arguments) (p : Path) → Presents p (complete_items Q rec nullable inner rows g args p)
    unfolding complete_items
    items_present nullable inner rows g args p =
        meets_passed (nullified_present (not nullable) p (
        meets_map _ (meets_in_order (more p) (λ ia. present_more Q (spot_of_path Q (p ++ (index ia.0 ∷ []))))
        (λ ia. meets_weaken (hit_up Q p (index ia.0)) (λ v w e. e) (h (an_item inner ia.1 g args) (p ++ (index ia.0 ∷ [])))) (numbered 0 rows))
        (λ vs w e n. record { hit = list_hit Q p rows vs w n e })))

    list_presents : (t : TypeRef) (rows : List ℕ) (g : Group) (args : Arguments) (p : Path) → Presents p (complete_list_value Q rec t rows g args p)
    unfolding complete_list_value
    list_presents (ref.Named n nullable) rows g args p = field_error_meets _ g p
    list_presents (ref.ListOf inner nullable) rows g args p = items_present nullable inner rows g args p
    list_presents ref.Unknown rows g args p = field_error_meets _ g p

    value_presents : (ty : ℕ) (r : Given) (g : Group) (args : Arguments) (p : Path) → Presents p (complete_value Q rec ty r g args p)
    unfolding complete_value
    value_presents ty (a_leaf l) g args p = leaf_value_presents ty l g p
    value_presents ty (a_list rows) g args p = list_presents _ rows g args p
    value_presents ty (an_object n rows) g args p = object_presents ty n rows g p

    resolved_fields : (ty : ℕ) (r : Resolved) (g : Group) (args : Arguments) (p : Path) → Fields p (complete_resolved Q rec ty r g args p)
    unfolding complete_resolved
    resolved_fields ty a_skip g args p = meets_pure _ tt
    resolved_fields ty an_error g args p = field_error_meets _ g p
    resolved_fields ty (given r) g args p = as_field p (value_presents ty r g args p)

    item_presents : (ty : ℕ) (r : Resolved) (g : Group) (args : Arguments) (p : Path) → Presents p (complete_item Q rec ty r g args p)
    unfolding complete_item
    item_presents ty a_skip g args p =
        meets_note {P = λ v w. v ≡ absent} (skipped p) (λ w. more p w (skipped p ∷ w) (λ a m. mem-cons_of_mem (skipped p) m))
        (λ v w e. subst (λ (v : Val). PresentHere Q (spot_of_path Q p) v (skipped p ∷ w)) (sym e) (λ n. n.none_at p mem-cons_self)) (meets_pure _ refl)
    item_presents ty an_error g args p = meets_fail _ _ (error_hit p _ _ _ _)
    item_presents ty (given r) g args p = nullified_present _ p (value_presents ty r g args p)

    field_fields : (type : ℕ) (rows : Range) (g : Group) (d : Definition) (p : Path) → Fields p (execute_field Q rec type rows g d p)
    unfolding execute_field
    field_fields type rows g typename p = as_field p (value_presents _ _ g [] p)
    field_fields type rows g (defined f) p =
        nullified_field _ p (then_field p (coerce_arguments_closed (asked p) Q _ _)
        (λ args. then_field p (resolve_field_value_closed (asked p) Q rows _ args) (λ r. resolved_fields _ r g args p)))

    step_gives : (t : Task) (p : Path) → Gives t p (step Q rec t p)
    unfolding step
    step_gives (a_field type rows g d) p = field_fields type rows g d p
    step_gives (an_item ty answer g args) p = then_present p (resolved_closed (asked p) Q args answer _) (λ r. item_presents ty r g args p)

  run_gives : (room : ℕ) (t : Task) (p : Path) → Gives t p (run Q room t p)
  unfolding run
  run_gives zero (a_field type rows g d) p = meets_halt 3
  run_gives zero (an_item ty answer g args) p = meets_halt 3
  run_gives (suc room) t p = step_gives (run_gives room) t p

  pub execute_gives : Meets (At []) (DataHere Q (spot_of_path Q [])) (execute Q)
  unfolding execute
  execute_gives = set_gives (run_gives 32) _ _ _ _
