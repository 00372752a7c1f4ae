-- Only what goes past a list is lowered. Assumes nothing.
use Rattle.walking.proofs.Settling.{past_placed, past_other, past_past}
use Rattle.walking.proofs.settle.past_list.Goals as goal

pub returns-in_default : goal.returns-in_default
returns-in_default c = search past_placed

pub returns-in_default-failure : goal.returns-in_default-failure
returns-in_default-failure c = search past_other

pub returns : goal.returns
returns c = search past_past
