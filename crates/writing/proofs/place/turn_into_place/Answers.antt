-- Of a text that fits, the borders are in order and within the buffer; of one that does not, nothing has to move. Assumes nothing.
use Rattle.writing.proofs.Rotation.{moves_rotated, moves_not}
use native.Mathlib.Omega.{arith}
use Rattle.writing.proofs.place.turn_into_place.Goals as goal

pub returns-then-a-b : goal.returns-then-a-b
returns-then-a-b c = moves_rotated _ _ _ _ (omega arith) (omega arith) (omega arith) c.rotate.ensures

pub returns-else-e-text : goal.returns-else-e-text
returns-else-e-text c = moves_not _ _ _ _ c.else-e-text.either
