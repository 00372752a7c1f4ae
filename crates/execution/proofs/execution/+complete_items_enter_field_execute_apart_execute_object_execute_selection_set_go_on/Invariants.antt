-- The functions of the walk, by one induction: the segments that a path may still have fall. Assumes nothing.
use Prim.Native.Nat.{◌+◌, ◌*◌, ◌-◌}
use Rattle.tables.specs.Tables.{lent}
use Rattle.resolving.specs.Sound.{request_of}
use Rattle.execution.proofs.Looping.{Itemizing}
use Rattle.execution.proofs.Sets.{Grouping}
use Rattle.execution.proofs.execution.+complete_items_enter_field_execute_apart_execute_object_execute_selection_set_go_on.Given as goal

abbrev pub decreases-complete_items : goal.decreases-complete_items
decreases-complete_items l = (32 - l.path.count) * 6 + 2

abbrev pub decreases-enter_field : goal.decreases-enter_field
decreases-enter_field l = (32 - l.path.count) * 6 + 2

abbrev pub decreases-execute_apart : goal.decreases-execute_apart
decreases-execute_apart l = (32 - l.path.count) * 6 + 4

abbrev pub decreases-execute_object : goal.decreases-execute_object
decreases-execute_object l = (32 - l.path.count) * 6 + 5

abbrev pub decreases-execute_selection_set : goal.decreases-execute_selection_set
decreases-execute_selection_set l = (32 - l.path.count) * 6 + 3

abbrev pub decreases-go_on : goal.decreases-go_on
decreases-go_on l = (32 - l.path.count) * 6 + 1

abbrev pub invariant-complete_items-loop-i : goal.invariant-complete_items-loop-i
invariant-complete_items-loop-i l = Itemizing (request_of (lent l.tables)) l.choices l.initial.text l.initial.errors l.initial.plans l.initial.spans l.initial.hints l.path l.initial.state l.plan l.group l.asked l.inner (record { first = l.first; count = l.count }) l.text l.errors l.plans l.spans l.hints l.state l.i

abbrev pub invariant-execute_selection_set-loop-taken : goal.invariant-execute_selection_set-loop-taken
invariant-execute_selection_set-loop-taken l = Grouping (request_of (lent l.tables)) l.choices l.initial.text l.initial.errors l.initial.plans l.initial.spans l.initial.hints l.path l.initial.state l.plan l.object l.rows l.text l.errors l.plans l.spans l.hints l.state l.groups l.base l.low l.taken
