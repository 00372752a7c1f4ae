-- Plain nodes have no doubles; otherwise the notes tell. Assumes nothing.
use mathlib.Core.Path.{sym}
use Rattle.distinct.proofs.Plain.{plain_differ}
use Rattle.distinct.proofs.keys.all_node_keys_differ.Goals as goal

pub returns-then-end-eq0 : goal.returns-then-end-eq0
returns-then-end-eq0 c = rw (← c.row_count.ensures) (sym (plain_differ _ _ _ (c.end_of_children-end.ensures.1 c.if-end-eq0.true)))
