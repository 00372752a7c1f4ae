-- A name is a word of its column. Assumes nothing.
use Rattle.rows.specs.Json.{variable_at}
use Rattle.graphql.specs.Lookup.{variable_named}
use Rattle.lookup.proofs.named.variable_named.Goals as goal

pub returns : goal.returns
unfolding variable_named variable_at
returns c = c.find_in_table.ensures
