-- Runs of US-ASCII, one behind the other, are one run. Assumes nothing.
use Rattle.text.proofs.ascii.Runs.{past_all}
use Rattle.text.proofs.ascii.past_ascii.Goals as goal

pub returns : goal.returns
returns c = search past_all
