-- The variable is absent, or its node is written. Assumes nothing.
use Rattle.echoing.proofs.Leaves.{variabled}
use Rattle.echoing.proofs.echo.put_variable.Goals as goal

pub returns-in_default : goal.returns-in_default
returns-in_default c = search variabled

pub returns : goal.returns
returns c = rw c.ok.ensures.value (search variabled)
