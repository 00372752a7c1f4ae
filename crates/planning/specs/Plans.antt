-- Plans: what the rows of eight words of a lent array stand for. A plan's head says how many groups and fields it has; a row for each group
-- follows and, where some group has more than one field, a row for each field. What stands is never changed.
use Rattle.std.specs.Prelude.{◌≡◌, List, [], ◌∷◌, ◌++◌, cond, ℕ, zero, suc, ◌+◌, ◌*◌, ◌-◌, ◌≤◌, ◌<◌, eqb, length, get_or, take}
use Rattle.std.specs.Prelude.{Option, Some, None, Result, Ok, Err}
use Rattle.rows.specs.Limits.{most_names, most_fields, most_types}
use Rattle.rows.specs.Schema.{type_at}
use Rattle.rows.specs.Document.{field_selection}
use Rattle.rows.specs.declared.document.FieldSelection.{FieldSelection}
use Rattle.tables.specs.Tables.{Tables, tables}
use Rattle.codes.specs.declared.outcome.Outcome.{Outcome}
use Rattle.codes.specs.Outcome.{code_of, most_open, most_collected}
use Rattle.graphql.specs.Run.{Choices, stop, done}
use Rattle.graphql.specs.Lookup.{selections_of}
use Rattle.graphql.specs.Collect.{Group, none_yet, collect}
use Rattle.graphql.specs.Request.{Request}
use Rattle.graphql.specs.Complete.{Definition, typename, defined, merge_selection_sets, definition_of}
use Rattle.collecting.specs.Collecting.{Collecting, Collectable, FieldRow, groups_of, Collects, Comes, rows_done}
use Rattle.collecting.specs.declared.collect.Gathered.{Gathered}
use Rattle.planning.specs.Expected.{Referred, expected_of}
use Rattle.planning.specs.declared.plan.Plan.{Plan}

-- ---- The words

abbrev pub word_at : (plans : List ℕ) (row column : ℕ) → ℕ
word_at plans row column = get_or plans (8 * row + column) 0

abbrev pub group_count : (plans : List ℕ) (plan : ℕ) → ℕ
group_count plans plan = word_at plans plan 1

abbrev pub field_count : (plans : List ℕ) (plan : ℕ) → ℕ
field_count plans plan = word_at plans plan 2

-- the first field of the group in a row
abbrev pub first_of : (plans : List ℕ) (row : ℕ) → ℕ
first_of plans row = word_at plans row 0

-- how many rows the fields have: none, where each group has one field
unfoldable pub field_rows : (groups fields : ℕ) → ℕ
field_rows groups fields = cond (eqb groups fields) 0 fields

-- the row behind a plan
abbrev pub plan_end : (plans : List ℕ) (plan : ℕ) → ℕ
plan_end plans plan = plan + 1 + group_count plans plan + field_rows (group_count plans plan) (field_count plans plan)

-- a lent array is at most so long, so that rows have small numbers
abbrev pub most_words : ℕ
most_words = 65536

-- the first words are as before
pub record Kept (plans : List ℕ) (words : ℕ) (plans' : List ℕ) : Type 0 where
  pub sized : length plans' ≡ length plans
  pub same : (i : ℕ) → i < words → get_or plans' i 0 ≡ get_or plans i 0

-- ---- The groups

-- those of the first rows that belong to the group, in order
unfoldable pub picked : (row owner : ℕ → ℕ) (group count : ℕ) → List ℕ
picked row owner group zero = []
picked row owner group (suc n) =
    let before = picked row owner group n in
    cond (eqb (owner n) group) (before ++ (row n ∷ [])) before

-- the fields in the rows from `first` on that belong to the group
unfoldable pub fields_of : (plans : List ℕ) (first group count : ℕ) → List ℕ
fields_of plans first group count = picked (λ i. word_at plans (first + i) 0) (λ i. word_at plans (first + i) 1) group count

-- the fields of a group
unfoldable pub members_of : (plans : List ℕ) (plan group : ℕ) → List ℕ
members_of plans plan group =
    let several = fields_of plans (plan + 1 + group_count plans plan) group (field_count plans plan) in
    cond (eqb (group_count plans plan) (field_count plans plan)) (first_of plans (plan + 1 + group) ∷ []) several

unfoldable pub rest : List ℕ → List ℕ
rest [] = []
rest (row ∷ rows) = rows

abbrev pub group_of : (selections : List ℕ) (first : ℕ) (members : List ℕ) → Group
group_of selections first members = record { key = (field_selection selections first).key; first = first; more = rest members }

abbrev pub group_at : (selections plans : List ℕ) (plan group : ℕ) → Group
group_at selections plans plan group = group_of selections (first_of plans (plan + 1 + group)) (members_of plans plan group)

unfoldable pub tabled : (ℕ → Group) → (first count : ℕ) → List Group
tabled group first zero = []
tabled group first (suc n) = group first ∷ tabled group (suc first) n

abbrev pub groups_at : (selections plans : List ℕ) (plan : ℕ) → List Group
groups_at selections plans plan = tabled (group_at selections plans plan) 0 (group_count plans plan)

-- ---- The row of a group

unfoldable pub definition_code : Option Definition → ℕ
definition_code None = 0
definition_code (Some typename) = 1
definition_code (Some (defined f)) = 2 + f

-- requests of which only these tables matter: the definition of a field, and the sets beneath a group
abbrev pub schema : (types fields : List ℕ) → Request
schema types fields = record { tables = tables [] [] [] types [] fields [] [] [] [] [] [] [] [] [] 0 }

abbrev pub document : (sets selections : List ℕ) → Request
document sets selections = record { tables = tables [] [] [] [] [] [] [] sets selections [] [] [] [] [] [] 0 }

pub record GroupRow (refs types fields selections : List ℕ) (object : ℕ) (plans : List ℕ) (row : ℕ) : Type 0 where
  pub field : FieldRow selections (first_of plans row)
  pub definition : word_at plans row 1 ≡ definition_code (definition_of (schema types fields) object (field_selection selections
      (first_of plans row)).name)
  pub name : word_at plans row 2 ≡ (field_selection selections (first_of plans row)).name
  pub key : word_at plans row 3 ≡ (field_selection selections (first_of plans row)).key
  pub what : word_at plans row 4
      ≡ (expected_of refs types fields (definition_of (schema types fields) object (field_selection selections (first_of plans row)).name)
      (field_selection selections (first_of plans row)).ty).what
  pub of : word_at plans row 5
      ≡ (expected_of refs types fields (definition_of (schema types fields) object (field_selection selections (first_of plans row)).name)
      (field_selection selections (first_of plans row)).ty).of

-- What stands in a plan, whatever it was made for: its groups are those of these fields.
pub record Holds (refs types fields selections : List ℕ) (object : ℕ) (list : List ℕ) (plans : List ℕ) (plan : ℕ) : Type 0 where
  pub groups : groups_at selections plans plan ≡ groups_of selections [] list
  pub rows : (group : ℕ) → group < group_count plans plan → GroupRow refs types fields selections object plans (plan + 1 + group)
  pub members : (group : ℕ) → group < group_count plans plan → members_of plans plan group
      ≡ first_of plans (plan + 1 + group) ∷ rest (members_of plans plan group)
  -- no row but the head is taken for a head
  pub low : (row : ℕ) → plan < row → row < plan_end plans plan → word_at plans row 0 < 32768

-- ---- Plans that are right

module _ (Q : Request) where
  abbrev T : Tables
  T = Q.tables

  -- the plan's groups are what the definition collects of these selections for the object
  pub record PlanOf (plans : List ℕ) (top plan object : ℕ) (set : List ℕ) : Type 0 where
    pub ends : plan_end plans plan ≤ top
    pub there : 8 * top ≤ length plans
    pub few : group_count plans plan ≤ most_collected
    pub collected : (k : Choices)
        → collect T.types T.members T.sets T.selections T.fragments T.variables T.nodes object set k
        ≡ done (groups_at T.selections plans plan) [] k
    pub rows : (group : ℕ) → group < group_count plans plan → GroupRow T.refs T.types T.fields T.selections object plans (plan + 1 + group)
    pub members : (group : ℕ) → group < group_count plans plan → members_of plans plan group
        ≡ first_of plans (plan + 1 + group) ∷ rest (members_of plans plan group)

  -- a head names the plan before it and the group that it was made for
  pub record Head (plans : List ℕ) (top plan : ℕ) : Type 0 where
    pub behind : plan_end plans (word_at plans plan 3) ≤ plan
    pub group : word_at plans plan 4 < group_count plans (word_at plans plan 3)
    pub right : PlanOf plans top plan (word_at plans plan 0 - 32768) (merge_selection_sets Q (members_of plans (word_at plans plan 3)
        (word_at plans plan 4)))

  pub record Standing (plans : List ℕ) (top : ℕ) : Type 0 where
    pub there : 8 * top ≤ length plans
    pub heads : (plan : ℕ) → plan < top → 32768 ≤ word_at plans plan 0 → Head plans top plan

-- ---- What the tables give

-- what a row of a plan holds fits 16 bits
pub record Fitting (refs types fields selections : List ℕ) : Type 0 where
  pub referred : Referred refs types
  pub defined : (type : ℕ) → (type_at types type).fields.first + (type_at types type).fields.count ≤ most_fields
  pub named : (row : ℕ) → FieldRow selections row → (field_selection selections row).name < most_names
  pub keyed : (row : ℕ) → FieldRow selections row → (field_selection selections row).key < most_names

-- ---- What the functions do

-- the first of the groups that has the key; as many as there are, where none has
pub record Which (plans : List ℕ) (first groups key r : ℕ) : Type 0 where
  pub within : r ≤ groups
  pub others : (group : ℕ) → group < r → word_at plans (first + group) 3 ≡ key → ⊥
  pub found : r < groups → word_at plans (first + r) 3 ≡ key

-- that group, if one has the key
abbrev pub FirstWith : (plans : List ℕ) (first groups key : ℕ) → Option ℕ → Type 0
FirstWith plans first groups key (Some r) = (r < groups) × Which plans first groups key r
FirstWith plans first groups key None = Which plans first groups key groups

-- the row of a group is put, and what stands before it is as before
pub record PutRow (refs types fields : List ℕ) (object row selection : ℕ) (field : FieldSelection) (plans plans' : List ℕ) : Type 0 where
  pub kept : Kept plans (8 * row) plans'
  pub first : word_at plans' row 0 ≡ selection
  pub definition : word_at plans' row 1 ≡ definition_code (definition_of (schema types fields) object field.name)
  pub name : word_at plans' row 2 ≡ field.name
  pub key : word_at plans' row 3 ≡ field.key
  pub what : word_at plans' row 4 ≡ (expected_of refs types fields (definition_of (schema types fields) object field.name) field.ty).what
  pub of : word_at plans' row 5 ≡ (expected_of refs types fields (definition_of (schema types fields) object field.name) field.ty).of

-- the rows of the list are fields, and there is room for their groups
pub record Groupable (refs types fields selections list : List ℕ) (first count : ℕ) (plans owners : List ℕ) : Type 0 where
  pub fitting : Fitting refs types fields selections
  pub field : (i : ℕ) → i < count → FieldRow selections (get_or list i 0)
  pub few : count ≤ most_collected
  pub listed : length list ≡ most_collected
  pub sized : length owners ≡ most_collected
  pub room : 8 * (first + count) ≤ length plans
  pub small : length plans ≤ most_words

-- those of the first fields of the list that belong to the group
abbrev pub owned : (list owners : List ℕ) (group count : ℕ) → List ℕ
owned list owners group count = picked (λ i. get_or list i 0) (λ i. get_or owners i 0) group count

-- the groups of the first fields of the list stand from the row `first` on; the owners say to which each field belongs
pub record Grouping (refs types fields selections list : List ℕ) (object first : ℕ) (before plans owners : List ℕ) (groups count : ℕ) : Type 0 where
  pub kept : Kept before (8 * first) plans
  pub sized : length owners ≡ most_collected
  pub few : groups ≤ count
  pub rows : (group : ℕ) → group < groups → GroupRow refs types fields selections object plans (first + group)
  pub owns : (i : ℕ) → i < count → get_or owners i 0 < groups
  pub members : (group : ℕ) → group < groups
      → owned list owners group count ≡ first_of plans (first + group) ∷ rest (owned list owners group count)
  pub single : groups ≡ count → (group : ℕ) → group < groups → owned list owners group count ≡ first_of plans (first + group) ∷ []
  pub is : groups_of selections [] (take count list)
      ≡ tabled (λ group. group_of selections (first_of plans (first + group)) (owned list owners group count)) 0 groups

pub record PutFields (list owners : List ℕ) (first count : ℕ) (plans plans' : List ℕ) : Type 0 where
  pub kept : Kept plans (8 * first) plans'
  pub fields : (i : ℕ) → i < count → word_at plans' (first + i) 0 ≡ get_or list i 0
  pub owns : (i : ℕ) → i < count → word_at plans' (first + i) 1 ≡ get_or owners i 0

-- a head is put, and what stands before and behind it is as before
pub record PutHead (at by groups count plan group : ℕ) (plans plans' : List ℕ) : Type 0 where
  pub kept : Kept plans (8 * at) plans'
  pub is_by : word_at plans' at 0 ≡ by
  pub is_groups : word_at plans' at 1 ≡ groups
  pub is_fields : word_at plans' at 2 ≡ count
  pub is_plan : word_at plans' at 3 ≡ plan
  pub is_group : word_at plans' at 4 ≡ group
  pub behind : (i : ℕ) → 8 * (at + 1) ≤ i → get_or plans' i 0 ≡ get_or plans i 0

-- there is room for a plan of the fields in the list
pub record Puttable (refs types fields selections list : List ℕ) (count at plan group : ℕ) (plans : List ℕ) : Type 0 where
  pub fitting : Fitting refs types fields selections
  pub field : (i : ℕ) → i < count → FieldRow selections (get_or list i 0)
  pub few : count ≤ most_collected
  pub listed : length list ≡ most_collected
  pub room : 8 * (at + 256) ≤ length plans
  pub small : length plans ≤ most_words
  pub plan_small : plan < most_words
  pub group_small : group < most_words

pub record PutPlan (refs types fields selections list : List ℕ) (count at by plan group object : ℕ) (plans : List ℕ) (r : Plan)
    (plans' : List ℕ) : Type 0 where
  pub kept : Kept plans (8 * at) plans'
  pub is : r ≡ record { plan = at; top = plan_end plans' at }
  pub ends : plan_end plans' at ≤ at + 256
  pub head : word_at plans' at 0 ≡ by
  pub parent : word_at plans' at 3 ≡ plan
  pub of_group : word_at plans' at 4 ≡ group
  pub holds : Holds refs types fields selections object (take count list) plans' at

-- ---- Collecting beneath a group

-- the rows of a field's child set; a field whose child set is 0 has none
abbrev pub child_rows : (sets selections : List ℕ) (row : ℕ) → List ℕ
child_rows sets selections row = cond (eqb (field_selection selections row).set 0) [] (selections_of sets (field_selection selections row).set)

module _ (types members sets selections fragments nodes variables : List ℕ) where
  abbrev pub CollectsChild : (object row : ℕ) (list : List ℕ) (g : Gathered) (r : Collecting) (list' : List ℕ) → Type 0
  CollectsChild object row list g r list' =
      Collects selections fragments (rows_done types members sets selections fragments nodes variables most_open object
      (child_rows sets selections row)) list g r list'

  abbrev pub CollectsOwned : (plans : List ℕ) (object row group : ℕ) (list : List ℕ) (g : Gathered) (r : Collecting) (list' : List ℕ) → Type 0
  CollectsOwned plans object row group list g r list' =
      Collects selections fragments
      (rows_done types members sets selections fragments nodes variables most_open object
      (cond (eqb (word_at plans row 1) group) (child_rows sets selections (word_at plans row 0)) [])) list g r list'

  -- what is collected of the child sets of these fields, from nothing
  pub record Gathers (object : ℕ) (rows list : List ℕ) (r : Collecting) (list' : List ℕ) : Type 0 where
    pub kept : length list' ≡ length list
    pub comes : Comes selections fragments
        (rows_done types members sets selections fragments nodes variables most_open object (merge_selection_sets
        (document sets selections) rows) none_yet) r list'

-- the plan stands, and has the group
pub record Lookable (plans : List ℕ) (plan group : ℕ) : Type 0 where
  pub has : group < group_count plans plan
  pub ends : 8 * plan_end plans plan ≤ length plans
  pub small : length plans ≤ most_words

-- ---- Finding a plan, or making it

-- a plan, or none where there is no room for it; or why its fields cannot be collected
abbrev pub Planned : Type 0
Planned = Result (Option Plan) Outcome

-- the same of a plan for which there is room
abbrev pub roomy : Result Plan Outcome → Planned
roomy (Ok plan) = Ok (Some plan)
roomy (Err o) = Err o

pub record Plannable (refs types fields sets selections fragments plans : List ℕ) (top plan group object : ℕ) : Type 0 where
  pub fitting : Fitting refs types fields selections
  pub collectable : (list : List ℕ) → length list ≡ most_collected → Collectable types sets fragments list
  pub known : object < most_types
  pub has : group < group_count plans plan
  pub ends : plan_end plans plan ≤ top
  pub there : 8 * top ≤ length plans
  pub small : length plans ≤ most_words

-- the request has these tables
pub record Lent (refs types members fields sets selections fragments nodes variables : List ℕ) (Q : Request) : Type 0 where
  pub same_refs : Q.tables.refs ≡ refs
  pub same_types : Q.tables.types ≡ types
  pub same_members : Q.tables.members ≡ members
  pub same_fields : Q.tables.fields ≡ fields
  pub same_sets : Q.tables.sets ≡ sets
  pub same_selections : Q.tables.selections ≡ selections
  pub same_fragments : Q.tables.fragments ≡ fragments
  pub same_nodes : Q.tables.nodes ≡ nodes
  pub same_variables : Q.tables.variables ≡ variables

module _ (Q : Request) (set plans : List ℕ) (top object : ℕ) where
  pub record Made (plan top' : ℕ) (plans' : List ℕ) : Type 0 where
    pub further : top ≤ top'
    pub standing : Standing Q plans' top'
    pub right : PlanOf Q plans' top' plan object set

  pub record Stopped (code : ℕ) (plans' : List ℕ) : Type 0 where
    pub standing : Standing Q plans' top
    pub stops : (k : Choices)
        → collect Q.tables.types Q.tables.members Q.tables.sets Q.tables.selections Q.tables.fragments
        Q.tables.variables Q.tables.nodes object set k
        ≡ stop code []

  abbrev pub Planning : Planned → (plans' : List ℕ) → Type 0
  Planning (Ok (Some made)) plans' = Made made.plan made.top plans'
  Planning (Ok None) plans' = Standing Q plans' top
  Planning (Err o) plans' = Stopped (code_of o) plans'

pub record PlansFor (refs types members fields sets selections fragments nodes variables plans : List ℕ) (top plan group object : ℕ)
    (r : Planned) (plans' : List ℕ) : Type 0 where
  pub kept : Kept plans (8 * top) plans'
  pub small_plan : (made : Plan) → r ≡ Ok (Some made) → made.plan < most_words
  pub comes : (Q : Request) → Lent refs types members fields sets selections fragments nodes variables Q → Standing Q plans top
      → Planning Q (merge_selection_sets Q (members_of plans plan group)) plans top object r plans'

-- ---- A plan in a store of its own

-- the store has room for it
pub record Storable (refs types fields sets selections fragments store : List ℕ) (object : ℕ) : Type 0 where
  pub fitting : Fitting refs types fields selections
  pub collectable : (list : List ℕ) → length list ≡ most_collected → Collectable types sets fragments list
  pub known : object < most_types
  pub room : 2048 ≤ length store
  pub small : length store ≤ most_words

-- the plan of these selections, or why they cannot be collected
pub record PlansAlone (refs types members fields sets selections fragments nodes variables : List ℕ) (set : Request → List ℕ) (object : ℕ)
    (store : List ℕ) (r : Result Plan Outcome) (store' : List ℕ) : Type 0 where
  pub sized : length store' ≡ length store
  pub comes : (Q : Request) → Lent refs types members fields sets selections fragments nodes variables Q
      → Planning Q (set Q) store 0 object (roomy r) store'

-- the operation's selections
abbrev pub operation_of : Request → List ℕ
operation_of Q = selections_of Q.tables.sets 0

-- those beneath a group of another store's plan
abbrev pub beneath_group : (plans : List ℕ) (plan group : ℕ) → Request → List ℕ
beneath_group plans plan group Q = merge_selection_sets Q (members_of plans plan group)
