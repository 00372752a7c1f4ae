-- Only a value that is there stays written. Assumes nothing.
use Rattle.walking.proofs.Settling.{settle_fails, settle_kept, settle_left_out}
use Rattle.walking.proofs.settle.settle.Goals as goal

pub returns-in_default : goal.returns-in_default
returns-in_default c = search settle_fails

pub returns-in_default-kind : goal.returns-in_default-kind
returns-in_default-kind c = search settle_kept

pub returns : goal.returns
returns c = search settle_left_out
