-- What stands behind the head, of which the path is the first words. Assumes nothing.
use Rattle.telling.proofs.Telling.{path-in, no-path-in}
use Rattle.telling.proofs.records.segments.Goals as goal

pub returns : goal.returns
returns c = path-in _ c.in-len3-up.len_at_least c.first.ensures

pub returns-in_default : goal.returns-in_default
returns-in_default c = no-path-in _ c.in_default.len_below
