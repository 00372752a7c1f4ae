-- Blocks of US-ASCII, one behind the other, are US-ASCII. Assumes nothing.
use Rattle.text.proofs.ascii.Runs.{pass_begin, pass_more}
use Rattle.text.proofs.ascii.past_blocks.Goals as goal

pub loop-block-init : goal.loop-block-init
loop-block-init g c = pass_begin _ _ _ _ _ c.requires.from_in_bounds (cc) (cc)

pub loop-block-preserved : goal.loop-block-preserved
loop-block-preserved g c =
    pass_more _ _ _ _ _ _ c.loop-block.invariant _ _ _ c.in-Some.ensures.steps.1.0 c.in-Some.ensures.steps.1.1
    c.is_ascii.result c.is_ascii.ensures c.if-not-is_ascii.false c.in-Some.ensures.steps.0
