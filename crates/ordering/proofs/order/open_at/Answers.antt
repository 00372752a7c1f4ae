-- What is passed over is passed over by the definition. Assumes nothing.
use Rattle.ordering.proofs.SpanLaws.{seek_begin, seek_found, seek_open, seek_taken, seek_end}
use Rattle.ordering.proofs.order.open_at.Goals.{then-spans-base-eq0+else-left-eq0, else-spans-base-eq0}
use Rattle.ordering.proofs.order.open_at.Goals as goal

pub loop-i-init : goal.loop-i-init
loop-i-init c = seek_begin c.requires.0 c.requires.1 c.requires.2 c.requires.3

pub returns-then-left-eq0 : goal.returns-then-left-eq0
returns-then-left-eq0 c = seek_found c.loop-i.invariant c.loop-i-test.true c.if-spans-base-eq0.true c.if-left-eq0.true

pub loop-i-preserved : goal.loop-i-preserved
loop-i-preserved c =
    elim c.if-spans-base-eq0.branch [
      | then-spans-base-eq0+else-left-eq0 w ↦
          rw w.left-is (seek_open c.loop-i.invariant c.loop-i-test.true w.if-spans-base-eq0.true w.if-left-eq0.false)
      | else-spans-base-eq0 w ↦ rw w.left-is (seek_taken c.loop-i.invariant c.loop-i-test.true w.if-spans-base-eq0.false)
    ]

pub unreachable-requires : goal.unreachable-requires
unreachable-requires c = seek_end c.loop-i.invariant c.loop-i-test.false
