-- Its text is there, or the literal has no value. Assumes nothing.
use Rattle.echoing.proofs.Leaves.{literal_shown}
use Rattle.echoing.proofs.echo.put_checked_literal.Goals as goal

pub returns : goal.returns
returns c = rw c.ok.ensures.value (search literal_shown)
