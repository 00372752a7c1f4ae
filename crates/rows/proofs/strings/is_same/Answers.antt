-- Texts of different lengths are not the same; of one length, the blocks decide. Assumes nothing.
use Rattle.rows.proofs.Same.{same_lengths}
use Rattle.rows.proofs.strings.is_same.Goals as goal

pub returns-then-a-b : goal.returns-then-a-b
returns-then-a-b c = search same_lengths
