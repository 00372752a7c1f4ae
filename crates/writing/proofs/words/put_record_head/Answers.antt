-- Words that are each put where the one before ended are one text. Assumes nothing.
use Rattle.writing.proofs.WritesLaws.{cons}
use Rattle.writing.proofs.words.put_record_head.Goals as goal

pub returns : goal.returns
returns c = cons c.put-after_code.ensures (cons c.put-after_place.ensures c.put.ensures)
