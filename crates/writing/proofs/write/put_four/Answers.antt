-- Where there is room for four bytes they are put as a run; where there is not, one behind the other. Assumes nothing.
use Rattle.writing.proofs.WritesLaws.{cons}
use Rattle.writing.proofs.write.put_four.Goals as goal

pub returns : goal.returns
returns c = cons c.put-second.ensures
    (cons c.put-third.ensures (cons c.put-fourth.ensures c.put.ensures))
