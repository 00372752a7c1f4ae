-- Blocks of US-ASCII, one behind the other, are US-ASCII. Assumes nothing.
use Rattle.text.proofs.ascii.Runs.{Passing}
use Rattle.text.proofs.ascii.past_blocks.Given as goal

abbrev pub invariant-loop-block : goal.invariant-loop-block
invariant-loop-block g l = Passing l.s g.row.SIZE l.from l.at l.block-iterator.rest.now l.block-iterator.size
