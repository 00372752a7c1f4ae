-- The place is the literal's. Assumes nothing.
use Rattle.input_coercion.proofs.check.fail_at.Goals as goal

pub returns : goal.returns
returns c = rw c.literal_place.ensures
