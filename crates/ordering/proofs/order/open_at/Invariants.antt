-- What is passed over is passed over by the definition. Assumes nothing.
use Rattle.ordering.proofs.SpanLaws.{Seeking}
use Rattle.ordering.proofs.order.open_at.Given as goal

abbrev pub invariant-loop-i : goal.invariant-loop-i
invariant-loop-i l = Seeking l.spans l.base l.groups l.skip l.left l.i
