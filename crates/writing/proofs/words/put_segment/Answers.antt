-- Words that are each put where the one before ended are one text. Assumes nothing.
use Rattle.writing.proofs.WritesLaws.{cons}
use Rattle.writing.proofs.words.put_segment.Goals as goal

pub returns : goal.returns
returns c = cons c.put-next.ensures c.put.ensures
