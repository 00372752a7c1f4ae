-- Texts of one length are the same just if they agree at every place. Assumes nothing.
use Rattle.rows.proofs.Same.{agree_none, agree_more, agree_all}
use Rattle.rows.proofs.strings.is_same_block.Goals as goal

pub loop-i-init : goal.loop-i-init
loop-i-init c = search agree_none

pub loop-i-preserved : goal.loop-i-preserved
loop-i-preserved c = search agree_more

pub returns : goal.returns
returns c = search agree_all
