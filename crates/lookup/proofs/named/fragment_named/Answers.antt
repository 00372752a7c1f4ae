-- A name is a word of its column. Assumes nothing.
use Rattle.rows.specs.Document.{fragment_at}
use Rattle.graphql.specs.Lookup.{fragment_named}
use Rattle.lookup.proofs.named.fragment_named.Goals as goal

pub returns : goal.returns
unfolding fragment_named fragment_at
returns c = c.find_in_table.ensures
