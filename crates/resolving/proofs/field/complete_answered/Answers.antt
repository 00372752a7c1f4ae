-- By what was answered. Assumes nothing.
use mathlib.Core.Path.{ap, ◌∙◌}
use Rattle.std.specs.Prelude.{Err}
use Rattle.resolving.proofs.Behind.{answers_given, answers_skip, answers_failed, answers_stopped}
use borrow.Author.Rules.{rules}
use Rattle.resolving.proofs.field.complete_answered.Goals as goal

ruleset answering = (answers_given, answers_skip, rules)

pub returns-in-Ok-None : goal.returns-in-Ok-None
returns-in-Ok-None c = search answering

pub returns-in-Failed : goal.returns-in-Failed
returns-in-Failed c = answers_failed (c.in-Err.is ∙ ap Err c.in-Failed.is) c.fail-d.ensures c.finished.ensures

pub returns-in-Stop : goal.returns-in-Stop
returns-in-Stop c = answers_stopped (c.in-Err.is ∙ ap Err c.in-Stop.is) c.code.ensures c.stopped.ensures c.finished-in-Stop.ensures
