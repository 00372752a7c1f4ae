-- The five functions of the walk, by one induction: the sets that may still be opened fall. Assumes nothing.
use Prim.Native.Nat.{◌+◌, ◌*◌, ◌-◌}
use Rattle.introspection.proofs.Walk.{Going}
use Rattle.introspection.proofs.max_depth.+check_child_set_check_field_check_selection_check_selection_set_check_spread.Given as goal

abbrev pub decreases-check_child_set : goal.decreases-check_child_set
decreases-check_child_set l = l.room * 4 + 1

abbrev pub decreases-check_field : goal.decreases-check_field
decreases-check_field l = l.room * 4 + 2

abbrev pub decreases-check_selection : goal.decreases-check_selection
decreases-check_selection l = l.room * 4 + 3

abbrev pub decreases-check_selection_set : goal.decreases-check_selection_set
decreases-check_selection_set l = l.room * 4

abbrev pub decreases-check_spread : goal.decreases-check_spread
decreases-check_spread l = l.room * 4 + 1

abbrev pub invariant-check_selection_set-loop-i : goal.invariant-check_selection_set-loop-i
invariant-check_selection_set-loop-i l = Going l.tables.sets.now l.tables.selections.now l.tables.fragments.now (l.room - 1) l.depth_so_far l.first l.count l.initial.rises l.rises l.max_depth l.i
