-- A dot and then the segment are one text. Assumes nothing.
use Rattle.writing.proofs.WritesLaws.{cons}
use Rattle.telling.specs.Told.{told_behind}
use Rattle.telling.proofs.lines.put_behind.Goals as goal

pub returns : goal.returns
unfolding told_behind
returns c = cons c.put-next.ensures c.put_segment.ensures
