-- In document order nothing is turned. Assumes nothing.
use Rattle.ordering.proofs.SpanLaws.{turns_stay, turns_move}
use Rattle.ordering.proofs.order.turn.Goals.{else-low-taken-via-then-low-taken+else-group-low, else-low-taken-via-else-low-taken}
use Rattle.ordering.proofs.order.turn.Goals as goal

pub returns-then-group-low : goal.returns-then-group-low
returns-then-group-low c = turns_stay c.if-low-taken.true c.if-group-low.true

pub returns : goal.returns
returns c = turns_move
    (elim c.else-low-taken.branch [
      | else-low-taken-via-then-low-taken+else-group-low w ↦ λ e k. w.if-group-low.false k
      | else-low-taken-via-else-low-taken w ↦ λ e k. w.if-low-taken.false e
    ])
    c.entry_start.ensures c.turn_into_place.ensures
