-- It is turned, and its span is put. Assumes nothing.
use Rattle.ordering.proofs.SpanLaws.{puts_low, puts_else}
use Rattle.ordering.proofs.order.put_in_place.Goals as goal

pub returns-then-group-low : goal.returns-then-group-low
returns-then-group-low c = puts_low c.turn.ensures c.span-own.ensures c.if-group-low.true

pub returns-else-group-low : goal.returns-else-group-low
returns-else-group-low c = puts_else c.turn.ensures c.span-own.ensures c.if-group-low.false
