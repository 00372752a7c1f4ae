-- An index is held as 4096 and itself. Assumes nothing.
use mathlib.Core.Path.{refl}
use Prim.Native.Nat.{◌+◌}
use Rattle.walking.proofs.PathLaws.{segment_index}
use Rattle.walking.proofs.path.index_segment.Goals as goal

pub returns : goal.returns
returns c = segment_index (4096 + c.args.row) c.args.row refl
