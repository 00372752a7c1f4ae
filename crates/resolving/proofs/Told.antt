-- A function that stopped the run did so with an outcome: what each public function of the crate ensures is told of an answer, `AnswerOf`. Assumes
-- nothing.
use mathlib.Core.Path.{◌≡◌}
use mathlib.Core.List.{List, [], ◌∷◌, ◌++◌}
use Prim.Native.Nat.{ℕ}
use lib.Dec.{leb}
use lib.ListN.{drop}
use Rattle.rows.specs.Names.{name_text}
use Rattle.rows.specs.declared.layout.Range.{Range}
use Rattle.codes.specs.declared.outcome.Outcome.TheVariants.{TooFar}
use Rattle.graphql.specs.Run.{Choices}
use Rattle.graphql.specs.Run as run
use Rattle.graphql.specs.Json.{containers}
use Rattle.graphql.specs.Collect.{Group}
use Rattle.graphql.specs.Coerce.{Arguments}
use Rattle.graphql.specs.Request.{Request}
use Rattle.graphql.specs.Stops.{Told}
use Rattle.graphql.specs.Complete.{Leaf, an_item, field_place, field_name, definition_of, execute_group}
use Rattle.graphql.proofs.Stops.{told_halt, told_when, leaf_told, group_told, task_told}
use Rattle.walking.specs.Gives.{as_value, as_entry, AnswerOf}
use Rattle.walking.specs.Paths.{segment_of, path_of}
use Rattle.walking.specs.declared.path.Path.{Path}
use Rattle.walking.specs.declared.state.State.{State}
use Rattle.walking.specs.declared.state.Done.{Done}
use Rattle.walking.proofs.Told.{told_answer}
use Rattle.leaves.specs.declared.leaf.Leaf as code
use Rattle.resolving.specs.Sound.{asking}
use Rattle.resolving.specs.Resolve.{Asks, Valuing, leaf_completed, CompletesAt}
use Rattle.resolving.specs.Steps.{comma, keyed_by, doing, group_from, ExecutesField, CompletesItem}
use Rattle.resolving.specs.declared.resolve.Asked.{Asked}
use Rattle.resolving.specs.declared.field.Step.TheVariants as step

completed_told : (Q : Request) (ty : ℕ) (l : Leaf) (g : Group) (p : run.Path) → Told (leaf_completed Q ty l g p)
completed_told Q ty l g p = told_when (leb (containers l.json) 32) (leaf_told Q ty l g p) (told_halt TooFar tt)

-- `complete_leaf_value`
pub leaf_answered : {pool names refs types members fields nodes literals variables : List ℕ} {ty spot last : ℕ} {leaf : code.Leaf} {path : Path}
    {text errors text' errors' : List ℕ} {s : State} {d : Done}
    → CompletesAt pool names refs types members fields nodes literals variables ty leaf spot path last text errors s d text' errors'
    → (arguments sets selections given fragments answers : List ℕ) (cs : Choices) (g : Group) (l : Leaf)
    → let Q = asking pool names refs types members fields arguments sets selections given fragments nodes literals variables answers in
    spot ≡ field_place Q g → Valuing Q leaf l.json
    → AnswerOf as_value (leaf_completed Q ty l g (path_of path ++ (segment_of last ∷ [])) (drop s.choice cs)) d.what
leaf_answered h arguments sets selections given fragments answers cs g l o v =
    told_answer (completed_told _ _ l g _) ((h.completes arguments sets selections given fragments answers).comes cs g l o v)

-- `execute_field`, where the field ended
pub field_answered : {pool names refs types members fields arguments selections given nodes literals variables answers : List ℕ} {path : Path}
    {first object : ℕ} {rows : Range} {text errors text' errors' : List ℕ} {s : State} {d : Done}
    → ExecutesField pool names refs types members fields arguments selections given nodes literals variables answers path first object rows text errors s
    (step.Finished d) text' errors'
    → (sets fragments cs more : List ℕ)
    → let Q = asking pool names refs types members fields arguments sets selections given fragments nodes literals variables answers in
    let g = group_from selections first more in
    AnswerOf (as_entry (keyed_by (name_text pool names g.key)))
    (execute_group Q (doing Q path.count) object rows (path_of path) g (definition_of Q object (field_name Q g)) (drop s.choice cs)) d.what
field_answered h sets fragments cs more = told_answer (group_told _ _ _ _ _ _ _) (h.steps sets fragments cs more).0

-- `complete_item`, where the item ended
pub item_answered : {pool names refs types members fields arguments given nodes literals variables answers : List ℕ} {path : Path} {at : ℕ}
    {asked : Asked} {inner row : ℕ} {text errors text' errors' : List ℕ} {s : State} {d : Done}
    → CompletesItem pool names refs types members fields arguments given nodes literals variables answers path at asked inner row text errors s
    (step.Finished d) text' errors'
    → (sets selections fragments cs : List ℕ) (g : Group) (args : Arguments)
    → let Q = asking pool names refs types members fields arguments sets selections given fragments nodes literals variables answers in
    Asks Q asked g args
    → AnswerOf (as_entry comma) (doing Q path.count (an_item inner row g args) (path_of path ++ (run.index at ∷ [])) (drop s.choice cs)) d.what
item_answered h sets selections fragments cs g args a = told_answer (task_told _ _ _ _) (h.steps sets selections fragments cs g args a).0
