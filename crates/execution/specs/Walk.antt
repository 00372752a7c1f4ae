-- What each function of the cycle rests on, and what it ensures: that it came to the definition's computation of its own name, and that the plans which
-- stood before it stand after it.
use Rattle.std.specs.Prelude.{◌≡◌, List, [], ◌∷◌, ◌++◌, ℕ, suc, ◌+◌, ◌*◌, ◌≤◌, ◌<◌, length, drop}
use Rattle.rows.specs.Limits.{most_types, most_answers}
use Rattle.rows.specs.Names.{name_text}
use Rattle.rows.specs.declared.layout.Range.{Range}
use Rattle.codes.specs.Outcome.{most_collected, most_segments}
use Rattle.graphql.specs.Run.{M, pure, index, in_order, ◌>>=◌}
use Rattle.graphql.specs.Data.{Val, val, list, entries}
use Rattle.graphql.specs.Lookup.{rows_in}
use Rattle.graphql.specs.Collect.{Group}
use Rattle.graphql.specs.Coerce.{Arguments}
use Rattle.graphql.specs.Request.{Request}
use Rattle.graphql.specs.Complete.{an_item, numbered, merge_selection_sets, definition_of, field_name, execute_group, execute_selection_set}
use Rattle.collecting.specs.Collecting.{Collectable}
use Rattle.planning.specs.Plans.{group_count, members_of, group_at, most_words, Kept, Fitting, PlanOf, Standing}
use Rattle.walking.specs.Gives.{as_data, as_value, as_entry, Gives}
use Rattle.walking.specs.Paths.{path_of}
use Rattle.walking.specs.declared.path.Path.{Path}
use Rattle.walking.specs.declared.state.State.{State}
use Rattle.walking.specs.declared.state.Done.{Done}
use Rattle.resolving.specs.Sound.{Answerable, Askable}
use Rattle.resolving.specs.Resolve.{Asks}
use Rattle.resolving.specs.Steps.{keyed_by, doing, Contained, Steps}
use Rattle.resolving.specs.declared.resolve.Asked.{Asked}
use Rattle.resolving.specs.declared.field.Deeper.{Deeper}
use Rattle.resolving.specs.declared.field.Step.{Step}
use Rattle.resolving.specs.declared.field.Step.TheVariants as step

-- ---- What the walk rests on

-- What lawful tables give.
pub record Sound (Q : Request) : Type 0 where
  pub answerable : Answerable Q.tables.types Q.tables.fields Q.tables.arguments Q.tables.selections Q.tables.nodes
      Q.tables.literals Q.tables.variables Q.tables.answers
  pub fitting : Fitting Q.tables.refs Q.tables.types Q.tables.fields Q.tables.selections
  pub collectable : (list : List ℕ) → length list ≡ most_collected → Collectable Q.tables.types Q.tables.sets Q.tables.fragments list

-- The plans stand, and the arrays lent have room for the spans of every set that may be open: 128 words for each, those of a set behind those of
-- the set around it.
pub record Ready (Q : Request) (plans spans hints : List ℕ) (path : Path) (s : State) : Type 0 where
  pub sound : Sound Q
  pub standing : Standing Q plans s.top
  pub small : length plans ≤ most_words
  pub spaced : length spans ≡ 4224
  pub hinted : length hints ≡ 1024
  pub short : path.count ≤ most_segments

-- a plan that is right for an object type, of some selections
pub record PlannedFor (Q : Request) (plans : List ℕ) (top plan object : ℕ) : Type 0 where
  pub set : List ℕ
  pub right : PlanOf Q plans top plan object set

-- a group of a plan that is right
pub record Grouped (Q : Request) (plans : List ℕ) (top plan group : ℕ) : Type 0 where
  pub object : ℕ
  pub planned : PlannedFor Q plans top plan object
  pub has : group < group_count plans plan

-- arguments that were coerced
pub record Asking (Q : Request) (g : Group) (asked : Asked) : Type 0 where
  pub askable : Askable Q.tables.arguments asked
  pub args : Arguments
  pub asks : Asks Q asked g args

-- a field or an item that began, as far as it goes on
pub record Opens (Q : Request) (path : Path) (g : Group) (s : State) (d : Deeper) : Type 0 where
  pub roomy : path.count < most_segments
  pub level : d.state.top ≡ s.top
  pub contains : Contained d.container
  pub asking : Asking Q g d.asked

abbrev pub Began : (Q : Request) (path : Path) (g : Group) (s : State) → Step → Type 0
Began Q path g s (step.Finished d) = d.state.top ≡ s.top
Began Q path g s (step.Deeper d) = Opens Q path g s d

module _ (Q : Request) (plans spans hints : List ℕ) (path : Path) (s : State) where
  pub record SetReady (plan object : ℕ) (rows : Range) : Type 0 where
    pub ready : Ready Q plans spans hints path s
    pub planned : PlannedFor Q plans s.top plan object
    pub leads : rows.first + rows.count ≤ most_answers

  pub record FieldReady (plan group object : ℕ) (rows : Range) : Type 0 where
    pub ready : Ready Q plans spans hints path s
    pub planned : PlannedFor Q plans s.top plan object
    pub has : group < group_count plans plan
    pub leads : rows.first + rows.count ≤ most_answers

  pub record StepReady (plan group : ℕ) (begun : Step) : Type 0 where
    pub ready : Ready Q plans spans hints path s
    pub grouped : Grouped Q plans s.top plan group
    pub began : Began Q path (group_at Q.tables.selections plans plan group) s begun

  pub record ItemsReady (plan group : ℕ) (asked : Asked) (rows : Range) : Type 0 where
    pub ready : Ready Q plans spans hints path s
    pub grouped : Grouped Q plans s.top plan group
    pub asking : Asking Q (group_at Q.tables.selections plans plan group) asked
    pub leads : rows.first + rows.count ≤ most_answers

  pub record ObjectReady (plan group object : ℕ) (rows : Range) : Type 0 where
    pub ready : Ready Q plans spans hints path s
    pub grouped : Grouped Q plans s.top plan group
    pub known : object < most_types
    pub leads : rows.first + rows.count ≤ most_answers

-- ---- What is left behind

-- Plans that stood still stand, and those that were made do; the spans of as many sets around as `depth` says are as before.
pub record Left (Q : Request) (depth : ℕ) (plans spans hints : List ℕ) (top : ℕ) (plans' spans' hints' : List ℕ) (top' : ℕ) : Type 0 where
  pub further : top ≤ top'
  pub kept : Kept plans (8 * top) plans'
  pub standing : Standing Q plans' top'
  pub unspanned : Kept spans (128 * depth) spans'
  pub hinted : length hints' ≡ length hints

-- ---- What each function comes to

-- the run of an item, with its number
abbrev pub item_run : Request → Path → Group → Arguments → (inner : ℕ) → (ℕ × ℕ) → M Val
item_run Q path g args inner ia = doing Q path.count (an_item inner ia.1 g args) (path_of path ++ (index ia.0 ∷ []))

module _ (Q : Request) (cs text errors plans spans hints : List ℕ) (path : Path) (s : State) where
  -- ExecuteSelectionSet, of the selections that the plan is right for
  pub record SetDone (plan object : ℕ) (rows : Range) (r : Done) (text' errors' plans' spans' hints' : List ℕ) : Type 0 where
    pub left : Left Q path.count plans spans hints s.top plans' spans' hints' r.state.top
    pub executes : (set : List ℕ) → PlanOf Q plans s.top plan object set
        → Gives as_data cs text errors s (execute_selection_set Q (doing Q path.count) object rows set (path_of path) (drop s.choice cs)) r text' errors'

  -- the set of an object answer, beneath the group of a plan
  pub record ObjectDone (plan group object : ℕ) (rows : Range) (r : Done) (text' errors' plans' spans' hints' : List ℕ) : Type 0 where
    pub left : Left Q path.count plans spans hints s.top plans' spans' hints' r.state.top
    pub executes : Gives as_data cs text errors s
        (execute_selection_set Q (doing Q path.count) object rows (merge_selection_sets Q (members_of plans plan group)) (path_of path) (drop s.choice cs))
        r text' errors'

  -- the entry of a group
  pub record FieldDone (plan group object : ℕ) (rows : Range) (r : Done) (text' errors' plans' spans' hints' : List ℕ) : Type 0 where
    pub left : Left Q (suc path.count) plans spans hints s.top plans' spans' hints' r.state.top
    pub enters : let g = group_at Q.tables.selections plans plan group in
        Gives (as_entry (keyed_by (name_text Q.tables.pool Q.tables.names g.key))) cs text errors s
        (execute_group Q (doing Q path.count) object rows (path_of path) g (definition_of Q object (field_name Q g)) (drop s.choice cs)) r text' errors'

  -- a field or an item that came so far, whatever it was
  pub record StepDone (plan group : ℕ) (begun : Step) (r : Done) (text' errors' plans' spans' hints' : List ℕ) : Type 0 where
    pub left : Left Q (suc path.count) plans spans hints s.top plans' spans' hints' r.state.top
    pub same_text : length text' ≡ length text
    pub same_errors : length errors' ≡ length errors
    pub goes : (label before noted : List ℕ) (m : M Val)
        → Steps Q cs label path (group_at Q.tables.selections plans plan group) before noted s m begun text errors
        → Gives (as_entry label) cs before noted s (m (drop s.choice cs)) r text' errors'

  -- the items of a list
  pub record ItemsDone (plan group : ℕ) (asked : Asked) (inner : ℕ) (rows : Range) (r : Done) (text' errors' plans' spans' hints' : List ℕ) : Type 0 where
    pub left : Left Q (suc path.count) plans spans hints s.top plans' spans' hints' r.state.top
    pub same_text : length text' ≡ length text
    pub same_errors : length errors' ≡ length errors
    pub completes : let g = group_at Q.tables.selections plans plan group in
        (args : Arguments) → Asks Q asked g args
        → Gives as_value cs text errors s
        ((in_order (item_run Q path g args inner) (numbered 0 (rows_in rows)) >>= λ vs. pure (val (list (entries vs)))) (drop s.choice cs)) r text' errors'
