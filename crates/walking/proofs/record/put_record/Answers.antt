-- The head, and then a segment of the path at a time. Assumes nothing.
use borrow.Author.Rules.{rules}
use Rattle.walking.proofs.Records.{recording_begin, recording_again, recording_ended}
use Rattle.walking.proofs.record.put_record.Goals as goal

pub loop-i-init : goal.loop-i-init
loop-i-init c = recording_begin _ _ _ _ (search rules) (search rules)

pub loop-i-preserved : goal.loop-i-preserved
loop-i-preserved c = search recording_again

pub returns : goal.returns
returns c = rw (← c.number-code.ensures)
    (recording_ended _ _ _ _ c.loop-i.invariant _ _ c.args.last c.loop-i-test.false
    c.put_record_head-next.ensures
    c.put_path_segment.ensures)
