-- The first segment and then those below it are the path. Assumes nothing.
use Rattle.telling.proofs.Telling.{no-path, path-told}
use Rattle.telling.proofs.lines.put_path.Goals as goal

pub returns-in_default : goal.returns-in_default
returns-in_default c = no-path _ _ _ c.in_default.len_below

pub returns : goal.returns
returns c = path-told _ _ _ c.in-len2-up.len_at_least c.put_segment-next.ensures c.put_below.ensures
