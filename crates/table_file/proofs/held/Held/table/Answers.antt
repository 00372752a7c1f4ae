-- Of a part that ends past the words' end, there is what is left of them. Assumes nothing.
use mathlib.Core.Path.{refl}
use Rattle.table_file.specs.Held.{table_of}
use Rattle.table_file.proofs.Parts.{front_or_all, rest_or_none}
use Rattle.table_file.proofs.held.Held.table.Goals as goal

pub returns : goal.returns
unfolding table_of
returns c =
    let rest = rest_or_none _ _ _ _ _ c.unwrap_or-rest.ensures refl c.get.ensures.lookup in
    let front = front_or_all _ _ _ _ _ c.unwrap_or.ensures refl c.get-2.ensures.lookup in
    rw (rest, c.number-number.ensures.is) at front
