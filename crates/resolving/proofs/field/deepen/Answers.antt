-- It failed, or it goes deeper. Assumes nothing.
use Rattle.resolving.proofs.Stepping.{opened_fails, opened_deepens}
use borrow.Author.Rules.{rules}
use Rattle.resolving.proofs.field.deepen.Goals as goal

ruleset deepening = (opened_fails, opened_deepens, rules)

pub returns-in-Err : goal.returns-in-Err
returns-in-Err c = search deepening

pub returns-in-Ok : goal.returns-in-Ok
returns-in-Ok c = search deepening
