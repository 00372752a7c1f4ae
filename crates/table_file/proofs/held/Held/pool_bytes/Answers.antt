-- A size beyond the pool takes all of it. Assumes nothing.
use mathlib.Core.Path.{refl}
use Rattle.table_file.specs.Held.{pool_of}
use Rattle.table_file.proofs.Parts.{front_or_all}
use Rattle.table_file.proofs.held.Held.pool_bytes.Goals as goal

pub returns : goal.returns
unfolding pool_of
returns c =
    let front = front_or_all _ _ _ _ _ c.unwrap_or.ensures refl c.get.ensures.lookup in
    rw c.number.ensures.is at front
