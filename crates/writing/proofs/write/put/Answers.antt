-- One element fits just where the position is within the buffer, and one position stands for all past the end. Assumes nothing.
use Rattle.writing.proofs.WritesLaws.{one, past_to}
use Rattle.writing.proofs.write.put.Goals as goal

pub returns-then-at-buffer : goal.returns-then-at-buffer
returns-then-at-buffer g c = one c.args.buffer.now c.args.at c.args.item c.if-at-buffer.true

pub returns-else-at-buffer : goal.returns-else-at-buffer
returns-else-at-buffer g c = past_to c.args.buffer.now c.args.at _ c.args.item c.if-at-buffer.false c.past_end.ensures
