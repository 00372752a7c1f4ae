-- A name is a word of its column. Assumes nothing.
use Rattle.rows.specs.Schema.{type_at}
use Rattle.graphql.specs.Lookup.{type_named}
use Rattle.lookup.proofs.named.type_named.Goals as goal

pub returns : goal.returns
unfolding type_named type_at
returns c = c.find_in_table.ensures
