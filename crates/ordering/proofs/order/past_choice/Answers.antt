-- One further where there is one. Assumes nothing.
use native.Mathlib.Numerals.{add-one}
use Rattle.ordering.proofs.SpanLaws.{past_some, past_none}
use Rattle.ordering.proofs.order.past_choice.Goals as goal

pub returns-then-choice-choices : goal.returns-then-choice-choices
returns-then-choice-choices c = rw add-one (past_some c.args.choices.now _ c.if-choice-choices.true)

pub returns-else-choice-choices : goal.returns-else-choice-choices
returns-else-choice-choices c = past_none c.args.choices.now _ c.if-choice-choices.false
