-- The note on the range's end tells; a range that ends past the notes is gone through. Assumes nothing.
use Rattle.rules.specs.Rows.{is_new, distinct}
use Rattle.distinct.specs.Differ.{is_other, differ}
use Rattle.distinct.proofs.Differ.{since_range}
use Rattle.distinct.proofs.columns.is_distinct_since.Goals as goal

pub returns-then-end-known : goal.returns-then-end-known
unfolding distinct is_new differ is_other
returns-then-end-known c = since_range _ _ _ c.requires.known_in_bounds.1 c.args.rows.first c.args.rows.count c.if-end-known.true
