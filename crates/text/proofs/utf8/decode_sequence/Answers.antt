-- Of a sequence that is half read, the number so far and what is still to come decide. Assumes nothing.
use Rattle.text.proofs.utf8.Decoding.{read_short, half_begun, half_fits, half_refused, half_more, read_whole, read_not_allowed}
use Rattle.text.proofs.utf8.decode_sequence.Goals as goal

pub returns-then-s-at : goal.returns-then-s-at
returns-then-s-at g c = search read_short

pub loop-i-init : goal.loop-i-init
loop-i-init g c = search half_begun

pub returns-then-not-is_tail : goal.returns-then-not-is_tail
returns-then-not-is_tail g c = search half_refused

pub with_tail-point-requires : goal.with_tail-point-requires
with_tail-point-requires g c = search half_fits

pub loop-i-preserved : goal.loop-i-preserved
loop-i-preserved g c = search half_more

pub returns-then-is_allowed : goal.returns-then-is_allowed
returns-then-is_allowed g c = search read_whole

pub returns-else-is_allowed : goal.returns-else-is_allowed
returns-else-is_allowed g c = search read_not_allowed
