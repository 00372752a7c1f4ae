-- How far a field or an item goes without going further down: it is finished, or it is a list or an object, whose parts come next. Read it after
-- Resolve.
use Rattle.std.specs.Prelude.{◌≡◌, List, [], ◌∷◌, ◌++◌, ℕ, suc, ◌+◌, ◌-◌, ◌≤◌, ◌<◌, drop}
use Rattle.rows.specs.Limits.{most_answers, most_types}
use Rattle.rows.specs.Names.{name_text}
use Rattle.rows.specs.Document.{field_selection}
use Rattle.rows.specs.declared.layout.Range.{Range}
use Rattle.tokens.specs.Escape.{quoted}
use Rattle.writing.specs.Wrote.{Wrote}
use Rattle.codes.specs.Outcome.{most_segments}
use Rattle.graphql.specs.Run.{Choices, M, pure, ◌>>=◌}
use Rattle.graphql.specs.Run as run
use Rattle.graphql.specs.Data.{Val, val}
use Rattle.graphql.specs.Lookup.{rows_in}
use Rattle.graphql.specs.Collect.{Group}
use Rattle.graphql.specs.Coerce.{Arguments}
use Rattle.graphql.specs.Request.{Request}
use Rattle.graphql.specs.Complete.{Task, an_item, merge_selection_sets, definition_of, field_name, try_nullify, execute_group, execute_selection_set, complete_items}
use Rattle.graphql.specs.Complete as defined
use Rattle.walking.specs.Gives.{as_entry, moved_to, Gives}
use Rattle.walking.specs.Paths.{segment_of, path_of}
use Rattle.walking.specs.declared.path.Path.{Path}
use Rattle.walking.specs.declared.state.State.{State}
use Rattle.resolving.specs.Sound.{asking, Askable}
use Rattle.resolving.specs.Resolve.{Asks}
use Rattle.resolving.specs.declared.resolve.Asked.{Asked}
use Rattle.resolving.specs.declared.field.Container.{Container}
use Rattle.resolving.specs.declared.field.Container.TheVariants as container
use Rattle.resolving.specs.declared.field.Deeper.{Deeper}
use Rattle.resolving.specs.declared.field.Step.{Step}
use Rattle.resolving.specs.declared.field.Step.TheVariants as step

-- ---- The bytes before a value: a comma; of a field also the key and a colon

abbrev pub comma : List ℕ
comma = 44 ∷ []

abbrev pub keyed_by : (key : List ℕ) → List ℕ
keyed_by key = 44 ∷ (quoted key ++ (58 ∷ []))

-- ---- What is still to do of a list or an object

-- the rows have numbers, and so has an object's type
abbrev pub Contained : Container → Type 0
Contained (container.List inner nullable rows) = rows.first + rows.count ≤ most_answers
Contained (container.Object object rows) = (object < most_types) × (rows.first + rows.count ≤ most_answers)

module _ (Q : Request) where
  abbrev pub contained : (Task → run.Path → M Val) → Container → Group → Arguments → run.Path → M Val
  contained rec (container.List inner nullable rows) g args p = complete_items Q rec nullable inner (rows_in rows) g args p
  contained rec (container.Object object rows) g args p =
      execute_selection_set Q rec object rows (merge_selection_sets Q (g.first ∷ g.more)) p >>= λ d. pure (val d)

  -- a task at a path of this length: so many segments may still be added
  abbrev pub doing : (count : ℕ) → Task → run.Path → M Val
  doing count = defined.run Q (most_segments - count)

  module _ (cs : Choices) (label : List ℕ) (path : Path) (g : Group) (text errors : List ℕ) (s : State) (m : M Val) where
    pub record Deepens (d : Deeper) (text' errors' : List ℕ) : Type 0 where
      pub roomy : path.count < most_segments
      pub written : Wrote text text' s.at d.state.at label
      pub unnoted : errors' ≡ errors
      pub moved : d.state ≡ moved_to s d.state.at
      pub contains : Contained d.container
      pub askable : Askable Q.tables.arguments d.asked
      pub args : Arguments
      pub asks : Asks Q d.asked g args
      pub is : (k : Choices) → m k
          ≡ try_nullify d.non_null (contained (doing (suc path.count)) d.container g args (path_of path ++ (segment_of d.last ∷ []))) k

    -- `m` is finished, as an entry behind this label; or it goes deeper
    abbrev pub Steps : Step → (text' errors' : List ℕ) → Type 0
    Steps (step.Finished d) text' errors' = Gives (as_entry label) cs text errors s (m (drop s.choice cs)) d text' errors' × (d.state.top ≡ s.top)
    Steps (step.Deeper d) text' errors' = Deepens d text' errors'

-- ---- What the two functions ensure, whatever stands in the tables that they do not read

-- the group whose first field is in this row
abbrev pub group_from : (selections : List ℕ) → (first : ℕ) → (more : List ℕ) → Group
group_from selections first more = record { key = (field_selection selections first).key; first = first; more = more }

-- a field of a set, with its key
pub record ExecutesField (pool names refs types members fields arguments selections given nodes literals variables answers : List ℕ) (path : Path)
    (first object : ℕ) (rows : Range) (text errors : List ℕ) (s : State) (r : Step) (text' errors' : List ℕ) : Type 0 where
  pub steps : (sets fragments cs more : List ℕ)
      → let Q = asking pool names refs types members fields arguments sets selections given fragments nodes literals variables answers in
      let g = group_from selections first more in
      Steps Q cs (keyed_by (name_text pool names g.key)) path g text errors s
      (execute_group Q (doing Q path.count) object rows (path_of path) g (definition_of Q object (field_name Q g))) r text' errors'

-- an item of a list, with its comma
pub record CompletesItem (pool names refs types members fields arguments given nodes literals variables answers : List ℕ) (path : Path)
    (at : ℕ) (asked : Asked) (inner row : ℕ) (text errors : List ℕ) (s : State) (r : Step) (text' errors' : List ℕ) : Type 0 where
  pub steps : (sets selections fragments cs : List ℕ) (g : Group) (args : Arguments)
      → let Q = asking pool names refs types members fields arguments sets selections given fragments nodes literals variables answers in
      Asks Q asked g args
      → Steps Q cs comma path g text errors s (doing Q path.count (an_item inner row g args) (path_of path ++ (run.index at ∷ []))) r text' errors'
