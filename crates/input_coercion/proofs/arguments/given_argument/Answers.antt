-- A name is a word of its column. Assumes nothing.
use Rattle.rows.specs.Document.{given_at}
use Rattle.input_coercion.specs.Coerced.{given_named}
use Rattle.input_coercion.proofs.arguments.given_argument.Goals as goal

pub returns : goal.returns
unfolding given_named given_at
returns c = c.find_word.ensures
