-- The range of all rows. Assumes nothing.
use Rattle.rules.specs.Rows.{distinct}
use Rattle.distinct.proofs.columns.is_distinct_column.Goals as goal

pub returns : goal.returns
unfolding distinct
returns c = rw (c.is_distinct.ensures, c.row_count.ensures)
