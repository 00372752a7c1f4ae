-- From the last row on the runs are right; the parts of a literal come later, and theirs are kept already. Assumes nothing.
use Prim.Native.Nat.{◌≤◌}
use Rattle.rows.specs.Layout.{literal_width}
use Rattle.rows.specs.Rows.{rows_of}
use Rattle.tables.specs.Marking.{Marked}
use Rattle.tables.proofs.defaults.mark_all.Given as goal

abbrev pub invariant-loop-row : goal.invariant-loop-row
invariant-loop-row l = (l.row ≤ rows_of l.literals literal_width) × Marked l.literals l.runs l.row
