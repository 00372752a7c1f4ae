-- The state with other plans standing. Assumes nothing.
use Rattle.execution.proofs.ends.done_apart.Goals as goal

pub returns : goal.returns
returns c = cc
