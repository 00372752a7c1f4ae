-- Each turn tells a segment, which leaves the rest to be told. Assumes nothing.
use Rattle.telling.proofs.Telling.{tell-again, tell-end}
use Rattle.telling.proofs.lines.put_below.Goals as goal

pub loop-rest-preserved : goal.loop-rest-preserved
loop-rest-preserved c = tell-again c.loop-rest.invariant c.in-len2-up.len_at_least c.put_behind-next.ensures

pub returns : goal.returns
returns c = tell-end c.loop-rest.invariant c.in_default.len_below
