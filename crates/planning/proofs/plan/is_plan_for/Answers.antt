-- A row that stands is looked at.  Assumes nothing.
use Rattle.planning.proofs.Words.{looking}
use borrow.Author.Rules.{rules}
use Rattle.planning.proofs.plan.is_plan_for.Goals as goal

pub returns-then-row-top : goal.returns-then-row-top
returns-then-row-top c = search (looking, rules)

pub returns : goal.returns
returns c = search (looking, rules)
