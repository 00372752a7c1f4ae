-- A name is a word of its column. Assumes nothing.
use Rattle.rows.specs.Schema.{argument_at}
use Rattle.echoing.specs.Source.{definition_named}
use Rattle.echoing.proofs.echo.definition_named.Goals as goal

pub returns : goal.returns
unfolding definition_named argument_at
returns c = c.find_word.ensures
