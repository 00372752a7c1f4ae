-- A key is a word of its column. Assumes nothing.
use Rattle.input_coercion.specs.Coerced.{given_for}
use Rattle.input_coercion.proofs.check.given_for.Goals as goal

pub returns : goal.returns
unfolding given_for
returns c = rw (← c.field_at-def.ensures) c.find_word.ensures
