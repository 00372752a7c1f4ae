-- The loop over the fields: what was collected so far is what the definition collects of the fields passed. Assumes nothing.
use Rattle.planning.proofs.Merged.{Merging}
use Rattle.planning.proofs.beneath.collect_children.Given as goal

abbrev pub invariant-loop-i : goal.invariant-loop-i
invariant-loop-i l = Merging l.tables.types.now l.tables.members.now l.tables.sets.now l.tables.selections.now l.tables.fragments.now l.tables.nodes.now l.tables.variables.now l.plans l.object l.first l.fields l.group l.initial.list l.list l.so_far l.i
