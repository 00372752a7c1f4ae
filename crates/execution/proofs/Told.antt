-- A set that stopped the run did so with an outcome: what `execute_selection_set` ensures is told of an answer, `AnswerOf`. Assumes nothing.
use mathlib.Core.List.{List}
use Prim.Native.Nat.{ℕ}
use lib.ListN.{drop}
use Rattle.rows.specs.declared.layout.Range.{Range}
use Rattle.graphql.specs.Request.{Request}
use Rattle.graphql.specs.Complete.{execute_selection_set}
use Rattle.graphql.proofs.Stops.{set_told}
use Rattle.planning.specs.Plans.{PlanOf}
use Rattle.walking.specs.Gives.{as_data, AnswerOf}
use Rattle.walking.specs.Paths.{path_of}
use Rattle.walking.specs.declared.path.Path.{Path}
use Rattle.walking.specs.declared.state.State.{State}
use Rattle.walking.specs.declared.state.Done.{Done}
use Rattle.walking.proofs.Told.{told_answer}
use Rattle.resolving.specs.Steps.{doing}
use Rattle.execution.specs.Walk.{SetDone}

pub set_answered : {Q : Request} {cs text errors plans spans hints : List ℕ} {path : Path} {s : State} {plan object : ℕ} {rows : Range} {d : Done}
    {text' errors' plans' spans' hints' : List ℕ}
    → SetDone Q cs text errors plans spans hints path s plan object rows d text' errors' plans' spans' hints'
    → (set : List ℕ) → PlanOf Q plans s.top plan object set
    → AnswerOf as_data (execute_selection_set Q (doing Q path.count) object rows set (path_of path) (drop s.choice cs)) d.what
set_answered h set right = told_answer (set_told _ _ _ _ _ _) (h.executes set right)
