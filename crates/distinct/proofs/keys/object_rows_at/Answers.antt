-- The kind tells whether the node is an object. Assumes nothing.
use Rattle.rows.specs.Json.{node_at}
use Rattle.distinct.proofs.Plain.{no_object}
use Rattle.distinct.proofs.keys.object_rows_at.Goals as goal

pub returns-then-cell-ne-OBJECT_NODE : goal.returns-then-cell-ne-OBJECT_NODE
unfolding node_at
returns-then-cell-ne-OBJECT_NODE c = no_object _ _ _ (rw c.cell.ensures at c.if-cell-ne-OBJECT_NODE.true)

pub returns : goal.returns
unfolding node_at
returns c = rw (← c.cell.ensures, c.if-cell-ne-OBJECT_NODE.false, c.cell-3.ensures, c.cell-2.ensures)
