-- The five functions of the walk, by one induction: the fragments that may still be opened fall. Assumes nothing.
use Prim.Native.Nat.{◌+◌, ◌*◌}
use Rattle.collecting.proofs.Walk.{Going}
use Rattle.collecting.proofs.collect.+collect_fields_collect_inline_collect_selection_collect_spread_open_set.Given as goal

abbrev pub decreases-collect_fields : goal.decreases-collect_fields
decreases-collect_fields l = l.room * 4 + 3

abbrev pub decreases-collect_inline : goal.decreases-collect_inline
decreases-collect_inline l = l.room * 4 + 1

abbrev pub decreases-collect_selection : goal.decreases-collect_selection
decreases-collect_selection l = l.room * 4 + 2

abbrev pub decreases-collect_spread : goal.decreases-collect_spread
decreases-collect_spread l = l.room * 4 + 1

abbrev pub decreases-open_set : goal.decreases-open_set
decreases-open_set l = l.room * 4

abbrev pub invariant-collect_fields-loop-i : goal.invariant-collect_fields-loop-i
invariant-collect_fields-loop-i l = Going l.tables.types.now l.tables.members.now l.tables.sets.now l.tables.selections.now l.tables.fragments.now l.tables.nodes.now l.tables.variables.now l.room l.object (record { first = l.first; count = l.count }) l.initial.list l.fn.gathered l.list l.so_far l.i
