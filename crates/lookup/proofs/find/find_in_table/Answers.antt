-- The rows of the table are as many as `row_count` says. Assumes nothing.
use Rattle.graphql.specs.Lookup.{rows_in}
use Rattle.lookup.proofs.find.find_in_table.Goals as goal

pub returns : goal.returns
unfolding rows_in
returns c = rw (← c.row_count.ensures) c.find_word.ensures
