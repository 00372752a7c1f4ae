-- Each turn tells a segment, which leaves the rest to be told. Assumes nothing.
use lib.ListN.{length}
use Rattle.telling.proofs.Telling.{Telling}
use Rattle.telling.proofs.lines.put_below.Given as goal

abbrev pub invariant-loop-rest : goal.invariant-loop-rest
invariant-loop-rest l = Telling l.tables.pool.now l.tables.names.now l.segments l.initial.line l.at l.line l.next l.rest

abbrev pub decreases-loop-rest : goal.decreases-loop-rest
decreases-loop-rest l = length l.rest
