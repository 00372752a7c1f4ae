-- The sum is the definition's at each group. Assumes nothing.
use Rattle.ordering.specs.Spans.{spans_at}
use Rattle.ordering.proofs.SpanLaws.{Adding}
use Rattle.ordering.proofs.order.entry_start.Given as goal

abbrev pub invariant-loop-span : goal.invariant-loop-span
invariant-loop-span l = Adding (spans_at l.spans l.base l.group) l.start l.at l.sum l.span-index
