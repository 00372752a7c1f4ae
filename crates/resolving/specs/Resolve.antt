-- What a resolver gave, as the code says it; and what the functions ensure that take an answer and complete a leaf.
use Rattle.std.specs.Prelude.{Option, Some, None, Result, Ok, Err, ◌≡◌, List, [], ◌∷◌, ◌++◌, ℕ, suc, ◌+◌, ◌≤◌, leb, drop}
use Rattle.rows.specs.Limits.{most_answers}
use Rattle.rows.specs.Layout.{node_width}
use Rattle.rows.specs.Rows.{rows_of}
use Rattle.rows.specs.Answers.{answer_at}
use Rattle.codes.specs.Outcome.{too_far, most_open}
use Rattle.graphql.specs.Run.{Path, Choices, M, pure, halt, when}
use Rattle.graphql.specs.Json.{Json, containers}
use Rattle.graphql.specs.Data.{Val}
use Rattle.graphql.specs.Lookup.{rows_in}
use Rattle.graphql.specs.Collect.{Group}
use Rattle.graphql.specs.Values.{node_value}
use Rattle.graphql.specs.Coerce.{Arguments, argument_named}
use Rattle.graphql.specs.Request.{Request}
use Rattle.graphql.specs.Complete.{Leaf, a_leaf, a_list, an_object, a_skip, an_error, given, field_place, coerce_arguments, complete_leaf_value}
use Rattle.graphql.specs.Complete as defined
use Rattle.input_coercion.specs.Ends.{Valued}
use Rattle.echoing.specs.Echo.{Comes}
use Rattle.leaves.specs.Leaves.{Means}
use Rattle.leaves.specs.declared.leaf.Leaf as code
use Rattle.walking.specs.Gives.{as_value, Gives}
use Rattle.walking.specs.Paths.{segment_of, path_of}
use Rattle.walking.specs.declared.path.Path as place
use Rattle.walking.specs.declared.state.State.{State}
use Rattle.walking.specs.declared.state.Done.{Done}
use Rattle.resolving.specs.Sound.{asking}
use Rattle.resolving.specs.declared.resolve.Asked.{Asked}
use Rattle.resolving.specs.declared.resolve.Given.{Given}
use Rattle.resolving.specs.declared.resolve.Given.TheVariants as value
use Rattle.codes.specs.declared.errors.FieldError.{FieldError}
use Rattle.codes.specs.declared.errors.FieldError.TheVariants as error

-- what was given, nothing where it is a skip, or the resolver's error
abbrev pub Resolved : Type 0
Resolved = Result (Option Given) FieldError

module _ (Q : Request) where
  -- the value of a leaf, in a request's tables
  abbrev pub Valuing : code.Leaf → Json → Type 0
  Valuing =
      Means Q.tables.pool Q.tables.names Q.tables.refs Q.tables.types Q.tables.fields Q.tables.nodes Q.tables.literals
      Q.tables.variables

  -- What is asked of a field: its arguments came to these, and errors stand at the group's first field.
  pub record Asks (asked : Asked) (g : Group) (args : Arguments) : Type 0 where
    pub place : asked.place ≡ field_place Q g
    pub path : Path
    pub comes : Comes (coerce_arguments Q path asked.definitions asked.written) args

  -- a leaf is taken where it does not open too many containers
  abbrev pub leaf_taken : Leaf → M defined.Resolved
  leaf_taken l = when (leb (containers l.json) most_open) (pure (given (a_leaf l))) (halt too_far)

  pub record TakesLeaf (m : M defined.Resolved) (leaf : code.Leaf) : Type 0 where
    pub taken : Leaf
    pub means : Valuing leaf taken.json
    pub is : (k : Choices) → m k ≡ leaf_taken taken k

  -- what the definition's resolver gives is what the code says
  abbrev pub GaveValue : M defined.Resolved → Given → Type 0
  GaveValue m (value.Leaf leaf) = TakesLeaf m leaf
  GaveValue m (value.List rows) = (rows.first + rows.count ≤ most_answers) × ((k : Choices) → m k ≡ pure (given (a_list (rows_in rows))) k)
  GaveValue m (value.Object name rows) = (rows.first + rows.count ≤ most_answers) × ((k : Choices) → m k ≡ pure (given (an_object name rows)) k)

  abbrev pub Gave : M defined.Resolved → Resolved → Type 0
  Gave m (Ok None) = (k : Choices) → m k ≡ pure a_skip k
  Gave m (Ok (Some v)) = GaveValue m v
  Gave m (Err e) = (e ≡ error.Resolver) × ((k : Choices) → m k ≡ pure an_error k)

  -- a leaf, taken and completed
  abbrev pub leaf_completed : (ty : ℕ) → Leaf → Group → Path → M Val
  leaf_completed ty l g p = when (leb (containers l.json) most_open) (complete_leaf_value Q ty l g p) (halt too_far)

-- The answer in a row, to a field that is asked so.
pub record Resolves (Q : Request) (asked : Asked) (row : ℕ) (r : Resolved) : Type 0 where
  pub gave : (g : Group) (args : Arguments) → Asks Q asked g args → Gave Q (defined.resolved Q args row (answer_at Q.tables.answers row)) r

-- whatever stands in the tables that are not read for it, if each node has a value
pub record ResolvesRow (arguments given literals variables answers : List ℕ) (asked : Asked) (row : ℕ) (r : Resolved) : Type 0 where
  pub resolves : (pool names refs types members fields sets selections fragments nodes : List ℕ)
      → ((node : ℕ) → Valued (node_value pool nodes (suc (rows_of nodes node_width)) node))
      → Resolves (asking pool names refs types members fields arguments sets selections given fragments nodes literals variables answers) asked row r

-- an argument that is echoed to such a field, whatever stands in those tables
pub record EchoesArgument (arguments given literals variables : List ℕ) (asked : Asked) (name : ℕ) (r : Resolved) : Type 0 where
  pub echoes : (pool names refs types members fields sets selections fragments nodes answers : List ℕ) (g : Group) (args : Arguments)
      → let Q = asking pool names refs types members fields arguments sets selections given fragments nodes literals variables answers in
      Asks Q asked g args → Gave Q (defined.echoed Q name (argument_named name args)) r

-- A leaf is completed at a place: it comes to what the definition says, whichever choices are left, and no plan is made.
pub record CompletesLeaf (Q : Request) (ty : ℕ) (leaf : code.Leaf) (spot : ℕ) (path : place.Path) (last : ℕ) (text errors : List ℕ) (s : State)
    (r : Done) (text' errors' : List ℕ) : Type 0 where
  pub comes : (cs : Choices) (g : Group) (l : Leaf) → spot ≡ field_place Q g → Valuing Q leaf l.json
      → Gives as_value cs text errors s (leaf_completed Q ty l g (path_of path ++ (segment_of last ∷ [])) (drop s.choice cs)) r text' errors'

pub record CompletesAt (pool names refs types members fields nodes literals variables : List ℕ) (ty : ℕ) (leaf : code.Leaf) (spot : ℕ)
    (path : place.Path) (last : ℕ) (text errors : List ℕ) (s : State) (r : Done) (text' errors' : List ℕ) : Type 0 where
  pub level : r.state.top ≡ s.top
  pub completes : (arguments sets selections given fragments answers : List ℕ)
      → CompletesLeaf (asking pool names refs types members fields arguments sets selections given fragments nodes literals variables answers) ty leaf
      spot path last text errors s r text' errors'
