-- What the functions within `field` ensure: how a value that stands behind its label comes to a step, by what was given. Read it after Steps.
use Rattle.std.specs.Prelude.{Option, Some, None, Result, Ok, Err, ◌≡◌, Bool, true, List, [], ◌∷◌, ◌++◌, ℕ, suc, ◌+◌, ◌≤◌, ◌<◌}
use Rattle.rows.specs.Limits.{most_answers, most_types}
use Rattle.rows.specs.Layout.{node_width}
use Rattle.rows.specs.Rows.{rows_of}
use Rattle.rows.specs.Schema.{type_ref_at, type_at}
use Rattle.rows.specs.Names.{name_text}
use Rattle.rows.specs.Answers.{answer_at}
use Rattle.rows.specs.declared.layout.Range.{Range}
use Rattle.rules.specs.Schema.{object_kind}
use Rattle.writing.specs.Wrote.{Wrote}
use Rattle.codes.specs.Errors.{number_of}
use Rattle.codes.specs.Outcome.{code_of}
use Rattle.codes.specs.declared.errors.FieldError.{FieldError}
use Rattle.codes.specs.declared.errors.FieldError.TheVariants as error
use Rattle.graphql.specs.Run.{Event, err, here, Choices, Res, M, pure, halt, fail, ◌>>=◌}
use Rattle.graphql.specs.Run as run
use Rattle.graphql.specs.Json.{string}
use Rattle.graphql.specs.Data.{Val, absent}
use Rattle.graphql.specs.Lookup.{rows_in}
use Rattle.graphql.specs.Values.{node_value}
use Rattle.graphql.specs.Collect.{Group}
use Rattle.graphql.specs.Coerce.{Arguments}
use Rattle.graphql.specs.Request.{Request}
use Rattle.graphql.specs.Complete.{Task, Leaf, field_place, coerce_arguments, resolve_field_value, try_nullify}
use Rattle.graphql.specs.Complete.{from_type, complete_leaf_value, complete_list_value, complete_object_value, complete_resolved}
use Rattle.lookup.specs.Found.{Listed}
use Rattle.values.specs.Put.{Parted}
use Rattle.completing.specs.Judged.{Lent}
use Rattle.input_coercion.specs.Ends.{Valued}
use Rattle.input_coercion.specs.declared.check.Uncoerced.{Uncoerced}
use Rattle.input_coercion.specs.declared.check.Uncoerced.TheVariants.{Failed, Stop}
use Rattle.input_coercion.specs.Coerced.{Coercible}
use Rattle.leaves.specs.declared.leaf.Leaf as code
use Rattle.walking.specs.Gives.{as_value, as_entry, moved_to, Gives}
use Rattle.walking.specs.Settled.{settled}
use Rattle.walking.specs.Paths.{segment_of, path_of}
use Rattle.walking.specs.declared.path.Path.{Path}
use Rattle.walking.specs.declared.state.State.{State}
use Rattle.walking.specs.declared.state.Done.{Done}
use Rattle.resolving.specs.Sound.{asking, Leads, Askable}
use Rattle.resolving.specs.Resolve.{Valuing, Asks, Resolved, Gave, leaf_completed}
use Rattle.resolving.specs.Steps.{Contained, contained, doing, Steps}
use Rattle.resolving.specs.declared.resolve.Asked.{Asked}
use Rattle.resolving.specs.declared.resolve.Given.{Given}
use Rattle.resolving.specs.declared.resolve.Given.TheVariants as value
use Rattle.resolving.specs.declared.field.Container.{Container}
use Rattle.resolving.specs.declared.field.Step.{Step}
use Rattle.resolving.specs.declared.field.Step.TheVariants as step

-- a list or an object at a type; or the error that it is there
abbrev pub Opened : Type 0
Opened = Result Container FieldError

-- what comes of a field's arguments and its answer: a value is given, or nothing; or it fails, or the run stops
abbrev pub Answered : Type 0
Answered = Result (Option Given) Uncoerced

-- the place below a path
abbrev pub spot_at : Path → (last : ℕ) → run.Path
spot_at path last = path_of path ++ (segment_of last ∷ [])

-- the record of an error
abbrev pub noting : FieldError → (place : ℕ) → run.Path → Event
noting e place p = err (record { code = number_of e; place = place; path = p })

-- ---- Behind a label

-- Whatever the label is and whatever stood before it: from its start on, `m` comes to this step.
pub record StepsBehind (Q : Request) (path : Path) (g : Group) (start : ℕ) (m : M Val) (text errors : List ℕ) (s : State) (r : Step)
    (text' errors' : List ℕ) : Type 0 where
  pub steps : (cs label before : List ℕ) → Wrote before text start s.at label
      → Steps Q cs label path g before errors (moved_to s start) m r text' errors'

-- A value that ended behind its label is an entry: null where it failed, unless the place is non-null.
pub record Finishes (non_null : Bool) (start : ℕ) (d : Done) (text : List ℕ) (r : Done) (text' : List ℕ) : Type 0 where
  pub level : r.state.top ≡ d.state.top
  pub finishes : (cs label before mid errors errors' : List ℕ) (s : State) (x : Res Val) → Wrote before mid start s.at label
      → Gives as_value cs mid errors s x d text errors'
      → Gives (as_entry label) cs before errors (moved_to s start) (settled non_null x) r text' errors'

-- ---- What is to be completed

-- errors stand at the first field, and the arguments can be looked through
pub record Stands (Q : Request) (asked : Asked) (g : Group) : Type 0 where
  pub place : asked.place ≡ field_place Q g
  pub askable : Askable Q.tables.arguments asked

module _ (Q : Request) (path : Path) (asked : Asked) (g : Group) where
  -- what is done one segment further down
  abbrev pub beneath : Task → run.Path → M Val
  beneath = doing Q (suc path.count)

  module _ (p : run.Path) (m : M Val) where
    -- `m` is the completion of a leaf, of a list, of an object
    pub record IsLeaf (ty : ℕ) (leaf : code.Leaf) : Type 0 where
      pub taken : Leaf
      pub means : Valuing Q leaf taken.json
      pub is : (k : Choices) → m k ≡ leaf_completed Q ty taken g p k

    pub record IsList (ty : ℕ) (rows : Range) : Type 0 where
      pub within : rows.first + rows.count ≤ most_answers
      pub args : Arguments
      pub asks : Asks Q asked g args
      pub is : (k : Choices) → m k ≡ complete_list_value Q beneath (type_ref_at Q.tables.refs ty) (rows_in rows) g args p k

    pub record IsObject (ty name : ℕ) (rows : Range) : Type 0 where
      pub within : rows.first + rows.count ≤ most_answers
      pub args : Arguments
      pub asks : Asks Q asked g args
      pub is : (k : Choices) → m k ≡ complete_object_value Q beneath ty name rows g p k

    abbrev pub Completing : (ty : ℕ) → Given → Type 0
    Completing ty (value.Leaf leaf) = IsLeaf ty leaf
    Completing ty (value.List rows) = IsList ty rows
    Completing ty (value.Object name rows) = IsObject ty name rows

    -- once its type is known
    pub record Opens (container : Container) : Type 0 where
      pub contains : Contained container
      pub args : Arguments
      pub asks : Asks Q asked g args
      pub is : (k : Choices) → m k ≡ contained Q beneath container g args p k

    abbrev pub Opening : Opened → Type 0
    Opening (Ok container) = Opens container
    Opening (Err e) = (k : Choices) → m k ≡ fail here (noting e (field_place Q g) p) k

    -- once the arguments are coerced and the answer is taken
    abbrev pub Answering : (ty : ℕ) → Answered → Type 0
    Answering ty (Ok None) = (k : Choices) → m k ≡ pure absent k
    Answering ty (Ok (Some v)) = Completing ty v
    Answering ty (Err (Failed f)) = (k : Choices) → m k ≡ fail here (noting f.error f.place p) k
    Answering ty (Err (Stop o)) = (k : Choices) → m k ≡ halt (code_of o) k

-- the leaf that `__typename` answers
abbrev pub typename_in : (pool names types : List ℕ) (object : ℕ) → Leaf
typename_in pool names types object = record { origin = from_type; json = string (name_text pool names (type_at types object).name) }

-- ---- What the functions ensure

-- Each of a list and of an object: whatever completion it is said to be, it is what was opened.
pub record OpensList (refs : List ℕ) (ty : ℕ) (rows : Range) (r : Opened) : Type 0 where
  pub opens : (Q : Request) (path : Path) (asked : Asked) (g : Group) (p : run.Path) (m : M Val) → Q.tables.refs ≡ refs
      → IsList Q path asked g p m ty rows → Opening Q path asked g p m r

pub record OpensObject (refs types members : List ℕ) (ty name : ℕ) (rows : Range) (r : Opened) : Type 0 where
  pub opens : (Q : Request) (path : Path) (asked : Asked) (g : Group) (p : run.Path) (m : M Val) (pool names : List ℕ)
      → Lent Q pool names refs types members → IsObject Q path asked g p m ty name rows → Opening Q path asked g p m r

-- Each behind a label: what was opened, what was given and what was answered, whatever completion it is said to be, comes to the step.
module _ (path : Path) (last : ℕ) (asked : Asked) where
  pub record OpensBehind (non_null : Bool) (start : ℕ) (opened : Opened) (text errors : List ℕ) (s : State) (r : Step)
      (text' errors' : List ℕ) : Type 0 where
    pub steps : (Q : Request) (g : Group) (m : M Val) → Stands Q asked g → Opening Q path asked g (spot_at path last) m opened
        → StepsBehind Q path g start (try_nullify non_null m) text errors s r text' errors'

  module _ (pool names refs types members fields nodes literals variables : List ℕ) (ty : ℕ) (non_null : Bool) (start : ℕ) where
    pub record CompletesBehind (v : Given) (text errors : List ℕ) (s : State) (r : Step) (text' errors' : List ℕ) : Type 0 where
      pub steps : (arguments sets selections given fragments answers : List ℕ)
          → let Q = asking pool names refs types members fields arguments sets selections given fragments nodes literals variables answers in
          (g : Group) (m : M Val) → Stands Q asked g → Completing Q path asked g (spot_at path last) m ty v
          → StepsBehind Q path g start (try_nullify non_null m) text errors s r text' errors'

    pub record AnswersBehind (v : Answered) (text errors : List ℕ) (s : State) (r : Step) (text' errors' : List ℕ) : Type 0 where
      pub steps : (arguments sets selections given fragments answers : List ℕ)
          → let Q = asking pool names refs types members fields arguments sets selections given fragments nodes literals variables answers in
          (g : Group) (m : M Val) → Stands Q asked g → Answering Q path asked g (spot_at path last) m ty v
          → StepsBehind Q path g start (try_nullify non_null m) text errors s r text' errors'

-- `__typename`, which is not nulled
module _ (path : Path) (last : ℕ) (pool names refs types members fields nodes literals variables : List ℕ) where
  pub record TypenameBehind (place ty object start : ℕ) (text errors : List ℕ) (s : State) (r : Done) (text' errors' : List ℕ) : Type 0 where
    pub steps : (arguments sets selections given fragments answers : List ℕ)
        → let Q = asking pool names refs types members fields arguments sets selections given fragments nodes literals variables answers in
        (g : Group) → place ≡ field_place Q g
        → StepsBehind Q path g start (complete_leaf_value Q ty (typename_in pool names types object) g (spot_at path last)) text errors s (step.Finished r) text' errors'

-- the answer to a field whose arguments are coerced
pub record ResolvesField (arguments given literals variables answers : List ℕ) (asked : Asked) (rows : Range) (name : ℕ) (r : Resolved) : Type 0 where
  pub gave : (pool names refs types members fields sets selections fragments nodes : List ℕ)
      → ((node : ℕ) → Valued (node_value pool nodes (suc (rows_of nodes node_width)) node))
      → let Q = asking pool names refs types members fields arguments sets selections given fragments nodes literals variables answers in
      (g : Group) (args : Arguments) → Asks Q asked g args → Gave Q (resolve_field_value Q rows name args) r

-- the resolver's error stands at the first field
abbrev pub answered_of : (place : ℕ) → Resolved → Answered
answered_of place (Ok given) = Ok given
answered_of place (Err e) = Err (Failed (record { error = e; place = place }))

-- a field's value, ahead of what becomes of a failure
abbrev pub field_value : Request → Path → Asked → (rows : Range) (name ty : ℕ) → Group → run.Path → M Val
field_value Q path asked rows name ty g p =
    coerce_arguments Q p asked.definitions asked.written
    >>= λ args. resolve_field_value Q rows name args >>= λ r. complete_resolved Q (doing Q (suc path.count)) ty r g args p

-- a field's arguments and its answer, whatever stands in the tables that are not read for them
pub record AnswersField (refs types fields arguments given nodes literals variables answers : List ℕ) (asked : Asked) (rows : Range) (name : ℕ)
    (r : Answered) : Type 0 where
  pub comes : (pool names members sets selections fragments : List ℕ)
      → let Q = asking pool names refs types members fields arguments sets selections given fragments nodes literals variables answers in
      (path : Path) (g : Group) (p : run.Path) (ty : ℕ) → asked.place ≡ field_place Q g
      → Answering Q path asked g p (field_value Q path asked rows name ty g p) ty r

-- ---- What they rest on

-- an object type has a number
pub record Known (types : List ℕ) : Type 0 where
  pub known : (type : ℕ) → object_kind (type_at types type).kind ≡ true → type < most_types

-- the types that are named, and the leaves that are written
pub record Completable (types nodes literals variables : List ℕ) : Type 0 where
  pub listed : Listed types
  pub coercible : Coercible types nodes literals variables
  pub parted : Parted nodes
  pub objects : Known types

-- the answers, and the arguments that are asked for
pub record Resolvable (arguments nodes answers : List ℕ) (asked : Asked) : Type 0 where
  pub valued : (pool : List ℕ) (row : ℕ) → Valued (node_value pool nodes (suc (rows_of nodes node_width)) row)
  pub leads : (row : ℕ) → Leads (answer_at answers row)
  pub askable : Askable arguments asked
