-- The functions of the walk, by one induction: the segments that a path may still have fall. Assumes nothing.
use mathlib.Core.Path.{refl, ap, ◌∙◌}
use Rattle.std.specs.Prelude.{Ok}
use native.Mathlib.Omega.{arith}
use borrow.Author.Rules.{rules}
use Rattle.execution.proofs.Looping.{items_begin, items_itemizable, items_numbered, items_ready, items_again, items_lost, items_ended}
use Rattle.execution.proofs.Entering.{field_first, field_second, field_small, field_row, field_own, field_ready, field_done}
use Rattle.execution.proofs.Beneath.{object_plannable, object_set_ready, object_set, object_apart_ready, object_apart, object_stops}
use Rattle.execution.proofs.Beneath.{apart_lookable, apart_storable, apart_set_ready, apart_set, apart_stops}
use Rattle.execution.proofs.Sets.{set_there, set_spans, set_text, set_errors, set_begin, set_tally, set_field_ready, set_room, set_lost, set_again, set_ended}
use Rattle.execution.proofs.Going.{go_finished, go_roomy, go_list_ready, go_object_ready, go_list, go_object}
use Rattle.execution.proofs.execution.+complete_items_enter_field_execute_apart_execute_object_execute_selection_set_go_on.Goals as goal

pub complete_items-loop-i-init : goal.complete_items-loop-i-init
complete_items-loop-i-init t c = items_begin c.requires

pub complete_items-complete_item-step-requires : goal.complete_items-complete_item-step-requires
complete_items-complete_item-step-requires t c = record { itemizable = items_itemizable c.requires; count_bound = (c.requires.ready.short, items_numbered c.requires c.loop-i-test.true) }

pub complete_items-go_on-d-requires : goal.complete_items-go_on-d-requires
complete_items-go_on-d-requires t c = (omega arith, items_ready _ _ _ _ _ _ _ _ _ _ _ _ _ _ _ c.requires c.loop-i.invariant c.loop-i-test.true refl c.complete_item-step.ensures)

pub complete_items-shape_of-text-in_default : goal.complete_items-shape_of-text-in_default
complete_items-shape_of-text-in_default t c = (items_lost _ _ _ _ _ _ _ _ _ _ _ _ _ _ _ c.requires c.loop-i.invariant c.loop-i-test.true refl c.complete_item-step.ensures c.go_on-d.ensures c.in_default.is).same_text

pub complete_items-shape_of-errors-in_default : goal.complete_items-shape_of-errors-in_default
complete_items-shape_of-errors-in_default t c = (items_lost _ _ _ _ _ _ _ _ _ _ _ _ _ _ _ c.requires c.loop-i.invariant c.loop-i-test.true refl c.complete_item-step.ensures c.go_on-d.ensures c.in_default.is).same_errors

pub complete_items-shape_of-plans-in_default : goal.complete_items-shape_of-plans-in_default
complete_items-shape_of-plans-in_default t c = (items_lost _ _ _ _ _ _ _ _ _ _ _ _ _ _ _ c.requires c.loop-i.invariant c.loop-i-test.true refl c.complete_item-step.ensures c.go_on-d.ensures c.in_default.is).left.kept.sized

pub complete_items-shape_of-spans-in_default : goal.complete_items-shape_of-spans-in_default
complete_items-shape_of-spans-in_default t c = (items_lost _ _ _ _ _ _ _ _ _ _ _ _ _ _ _ c.requires c.loop-i.invariant c.loop-i-test.true refl c.complete_item-step.ensures c.go_on-d.ensures c.in_default.is).left.unspanned.sized

pub complete_items-shape_of-hints-in_default : goal.complete_items-shape_of-hints-in_default
complete_items-shape_of-hints-in_default t c = (items_lost _ _ _ _ _ _ _ _ _ _ _ _ _ _ _ c.requires c.loop-i.invariant c.loop-i-test.true refl c.complete_item-step.ensures c.go_on-d.ensures c.in_default.is).left.hinted

pub complete_items-returns-in_default : goal.complete_items-returns-in_default
complete_items-returns-in_default t c = rw c.moved.ensures (items_lost _ _ _ _ _ _ _ _ _ _ _ _ _ _ _ c.requires c.loop-i.invariant c.loop-i-test.true refl c.complete_item-step.ensures c.go_on-d.ensures c.in_default.is)

pub complete_items-loop-i-smaller : goal.complete_items-loop-i-smaller
complete_items-loop-i-smaller t c = omega (arith, c.loop-i-test.true)

pub complete_items-loop-i-preserved : goal.complete_items-loop-i-preserved
complete_items-loop-i-preserved t c = items_again _ _ _ _ _ _ _ _ _ _ _ _ _ _ _ c.requires c.loop-i.invariant c.loop-i-test.true refl c.complete_item-step.ensures c.go_on-d.ensures c.in-Ok.is

pub complete_items-returns : goal.complete_items-returns
complete_items-returns t c = rw c.placed.ensures (items_ended c.requires c.loop-i.invariant c.loop-i-test.false c.close-end.ensures)

pub enter_field-definition-requires : goal.enter_field-definition-requires
enter_field-definition-requires t c = (field_small c.requires, field_second c.requires)

pub enter_field-first_field-requires : goal.enter_field-first_field-requires
enter_field-first_field-requires t c = (field_small c.requires, field_first c.requires)

pub enter_field-execute_field-step-requires : goal.enter_field-execute_field-step-requires
enter_field-execute_field-step-requires t c = record { answerable = c.requires.ready.sound.answerable; count_bound = (c.requires.ready.short, c.requires.leads); field_row = (field_row c.requires c.first_field.ensures, field_own c.requires c.definition.ensures c.first_field.ensures) }

pub enter_field-go_on-requires : goal.enter_field-go_on-requires
enter_field-go_on-requires t c = (omega arith, field_ready _ _ _ _ _ _ _ _ _ _ _ _ _ _ _ c.requires c.first_field.ensures c.execute_field-step.ensures)

pub enter_field-returns : goal.enter_field-returns
enter_field-returns t c = field_done _ _ _ _ _ _ _ _ _ _ _ _ _ _ _ c.requires c.first_field.ensures c.execute_field-step.ensures c.go_on.ensures

pub execute_apart-plan_apart-requires : goal.execute_apart-plan_apart-requires
execute_apart-plan_apart-requires t c = (apart_storable c.requires refl, apart_lookable c.requires)

pub execute_apart-returns-in-Err : goal.execute_apart-returns-in-Err
execute_apart-returns-in-Err t c = apart_stops c.requires refl c.plan_apart.ensures.planned c.in-Err.is c.code.ensures c.stopped.ensures

pub execute_apart-execute_selection_set-d-requires : goal.execute_apart-execute_selection_set-d-requires
execute_apart-execute_selection_set-d-requires t c = (omega arith, rw c.planned_to.ensures (apart_set_ready c.requires refl c.plan_apart.ensures.planned c.in-Ok.is))

pub execute_apart-returns : goal.execute_apart-returns
execute_apart-returns t c = apart_set c.requires refl c.plan_apart.ensures.planned c.in-Ok.is c.done_apart.ensures (rw c.planned_to.ensures at c.execute_selection_set-d.ensures)

pub execute_object-plan_for-requires : goal.execute_object-plan_for-requires
execute_object-plan_for-requires t c = (object_plannable c.requires, c.requires.ready.hinted)

pub execute_object-execute_apart-requires : goal.execute_object-execute_apart-requires
execute_object-execute_apart-requires t c = (omega arith, object_apart_ready c.requires _ c.plan_for.ensures.planned (search rules) (c.in-Ok.is ∙ ap Ok c.in-None.is))

pub execute_object-execute_selection_set-requires : goal.execute_object-execute_selection_set-requires
execute_object-execute_selection_set-requires t c = (omega arith, rw c.planned_to.ensures (object_set_ready c.requires _ c.plan_for.ensures.planned (search rules) (c.in-Ok.is ∙ ap Ok c.in-Some.is)))

pub execute_object-returns-in-None : goal.execute_object-returns-in-None
execute_object-returns-in-None t c = object_apart c.requires _ c.plan_for.ensures.planned (search rules) (c.in-Ok.is ∙ ap Ok c.in-None.is) c.execute_apart.ensures

pub execute_object-shape_of-plans-in-Some : goal.execute_object-shape_of-plans-in-Some
execute_object-shape_of-plans-in-Some t c = (object_set c.requires _ c.plan_for.ensures.planned (search rules) (c.in-Ok.is ∙ ap Ok c.in-Some.is) (rw c.planned_to.ensures at c.execute_selection_set.ensures)).left.kept.sized

pub execute_object-returns-in-Some : goal.execute_object-returns-in-Some
execute_object-returns-in-Some t c = object_set c.requires _ c.plan_for.ensures.planned (search rules) (c.in-Ok.is ∙ ap Ok c.in-Some.is) (rw c.planned_to.ensures at c.execute_selection_set.ensures)

pub execute_object-returns-in-Err : goal.execute_object-returns-in-Err
execute_object-returns-in-Err t c = object_stops c.requires _ c.plan_for.ensures.planned (search rules) c.in-Err.is c.code.ensures c.stopped.ensures

pub execute_selection_set-group_count-groups-requires : goal.execute_selection_set-group_count-groups-requires
execute_selection_set-group_count-groups-requires t c = set_there c.requires

pub execute_selection_set-clear_spans-requires : goal.execute_selection_set-clear_spans-requires
execute_selection_set-clear_spans-requires t c = set_spans c.requires c.group_count-groups.ensures refl

pub execute_selection_set-loop-taken-init : goal.execute_selection_set-loop-taken-init
execute_selection_set-loop-taken-init t c = set_begin c.requires c.group_count-groups.ensures refl c.clear_spans.ensures

pub execute_selection_set-next_group-group-requires : goal.execute_selection_set-next_group-group-requires
execute_selection_set-next_group-group-requires t c = set_tally c.requires c.group_count-groups.ensures refl c.clear_spans.ensures c.loop-taken.invariant c.loop-taken-test.true

pub execute_selection_set-enter_field-d-requires : goal.execute_selection_set-enter_field-d-requires
execute_selection_set-enter_field-d-requires t c = (omega arith, set_field_ready c.requires c.group_count-groups.ensures refl c.clear_spans.ensures c.loop-taken.invariant c.loop-taken-test.true c.next_group-group.ensures refl)

pub execute_selection_set-shape_of-text-in_default : goal.execute_selection_set-shape_of-text-in_default
execute_selection_set-shape_of-text-in_default t c = set_text c.requires (set_lost c.requires c.group_count-groups.ensures refl c.clear_spans.ensures c.loop-taken.invariant c.loop-taken-test.true c.next_group-group.ensures c.past_choice.ensures c.enter_field-d.ensures c.in_default.is)

pub execute_selection_set-shape_of-errors-in_default : goal.execute_selection_set-shape_of-errors-in_default
execute_selection_set-shape_of-errors-in_default t c = set_errors c.requires (set_lost c.requires c.group_count-groups.ensures refl c.clear_spans.ensures c.loop-taken.invariant c.loop-taken-test.true c.next_group-group.ensures c.past_choice.ensures c.enter_field-d.ensures c.in_default.is)

pub execute_selection_set-shape_of-plans-in_default : goal.execute_selection_set-shape_of-plans-in_default
execute_selection_set-shape_of-plans-in_default t c = (set_lost c.requires c.group_count-groups.ensures refl c.clear_spans.ensures c.loop-taken.invariant c.loop-taken-test.true c.next_group-group.ensures c.past_choice.ensures c.enter_field-d.ensures c.in_default.is).left.kept.sized

pub execute_selection_set-shape_of-spans-in_default : goal.execute_selection_set-shape_of-spans-in_default
execute_selection_set-shape_of-spans-in_default t c = (set_lost c.requires c.group_count-groups.ensures refl c.clear_spans.ensures c.loop-taken.invariant c.loop-taken-test.true c.next_group-group.ensures c.past_choice.ensures c.enter_field-d.ensures c.in_default.is).left.unspanned.sized

pub execute_selection_set-shape_of-hints-in_default : goal.execute_selection_set-shape_of-hints-in_default
execute_selection_set-shape_of-hints-in_default t c = (set_lost c.requires c.group_count-groups.ensures refl c.clear_spans.ensures c.loop-taken.invariant c.loop-taken-test.true c.next_group-group.ensures c.past_choice.ensures c.enter_field-d.ensures c.in_default.is).left.hinted

pub execute_selection_set-returns-in_default : goal.execute_selection_set-returns-in_default
execute_selection_set-returns-in_default t c = rw (c.past_list.ensures, c.moved.ensures) (set_lost c.requires c.group_count-groups.ensures refl c.clear_spans.ensures c.loop-taken.invariant c.loop-taken-test.true c.next_group-group.ensures c.past_choice.ensures c.enter_field-d.ensures c.in_default.is)

pub execute_selection_set-put_in_place-low-requires : goal.execute_selection_set-put_in_place-low-requires
execute_selection_set-put_in_place-low-requires t c = set_room c.requires c.group_count-groups.ensures refl c.clear_spans.ensures c.loop-taken.invariant c.loop-taken-test.true c.next_group-group.ensures c.past_choice.ensures c.enter_field-d.ensures

pub execute_selection_set-loop-taken-smaller : goal.execute_selection_set-loop-taken-smaller
execute_selection_set-loop-taken-smaller t c = omega (arith, c.loop-taken-test.true)

pub execute_selection_set-loop-taken-preserved : goal.execute_selection_set-loop-taken-preserved
execute_selection_set-loop-taken-preserved t c = set_again c.requires c.group_count-groups.ensures refl c.clear_spans.ensures c.loop-taken.invariant c.loop-taken-test.true c.next_group-group.ensures c.past_choice.ensures c.enter_field-d.ensures c.in-Ok.is (search rules) c.put_in_place-low.ensures

pub execute_selection_set-returns : goal.execute_selection_set-returns
execute_selection_set-returns t c = rw c.placed.ensures (set_ended c.requires c.group_count-groups.ensures refl c.clear_spans.ensures c.loop-taken.invariant c.loop-taken-test.false c.close-end.ensures)

pub go_on-returns-in-Finished : goal.go_on-returns-in-Finished
go_on-returns-in-Finished t c = go_finished c.requires c.in-Finished.is

pub go_on-below-down-requires : goal.go_on-below-down-requires
go_on-below-down-requires t c = go_roomy c.requires c.in-Deeper.is

pub go_on-complete_items-d-requires : goal.go_on-complete_items-d-requires
go_on-complete_items-d-requires t c = (omega (arith, go_roomy c.requires c.in-Deeper.is, c.below-down.ensures.1), go_list_ready c.requires c.in-Deeper.is _ c.below-down.ensures c.in-List.is)

pub go_on-execute_object-d-requires : goal.go_on-execute_object-d-requires
go_on-execute_object-d-requires t c = (omega (arith, go_roomy c.requires c.in-Deeper.is, c.below-down.ensures.1), go_object_ready c.requires c.in-Deeper.is _ c.below-down.ensures c.in-Object.is)

pub go_on-returns-in-List : goal.go_on-returns-in-List
go_on-returns-in-List t c = go_list c.requires c.in-Deeper.is c.in-List.is c.complete_items-d.ensures c.below-down.ensures c.list_done.ensures

pub go_on-returns-in-Object : goal.go_on-returns-in-Object
go_on-returns-in-Object t c = go_object c.requires c.in-Deeper.is c.in-Object.is c.execute_object-d.ensures c.below-down.ensures c.object_done.ensures
