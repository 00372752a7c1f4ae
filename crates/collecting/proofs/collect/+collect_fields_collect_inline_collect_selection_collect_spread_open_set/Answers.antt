-- The five functions of the walk, by one induction: the fragments that may still be opened fall. Assumes nothing.
use mathlib.Core.Path.{◌≡◌}
use Rattle.std.specs.Prelude.{Err}
use borrow.Author.Rules.{rules}
use Rattle.collecting.proofs.Walk.{walking, going_again, going_stopped}
use Rattle.collecting.proofs.collect.+collect_fields_collect_inline_collect_selection_collect_spread_open_set.Goals as goal

ruleset walk = (walking, rules)

pub collect_fields-returns-in_err-so_far-clause-collects : goal.collect_fields-returns-in_err-so_far-clause-collects
collect_fields-returns-in_err-so_far-clause-collects t c =
    let e : c.from_residual.result ≡ Err c.in_err-so_far.field-0.0 = search rules in
    rw e (going_stopped _ _ _ _ _ _ _ _ _ _ _ _ c.loop-i.invariant (search walk) c.collect_selection.ensures.collects c.in_err-so_far.was)

pub collect_fields-loop-i-preserved : goal.collect_fields-loop-i-preserved
collect_fields-loop-i-preserved t c = going_again _ _ _ _ _ _ _ _ _ _ _ _ c.loop-i.invariant (search walk) c.collect_selection.ensures.collects c.in_ok-so_far.was

pub collect_fields-returns-clause-collects : goal.collect_fields-returns-clause-collects
collect_fields-returns-clause-collects t c = search walk

pub collect_inline-returns-then-not-inline_applies-clause-collects : goal.collect_inline-returns-then-not-inline_applies-clause-collects
collect_inline-returns-then-not-inline_applies-clause-collects t c = search walk

pub collect_inline-returns-clause-collects : goal.collect_inline-returns-clause-collects
collect_inline-returns-clause-collects t c = search walk

pub collect_selection-returns-then-is_dropped-clause-collects : goal.collect_selection-returns-then-is_dropped-clause-collects
collect_selection-returns-then-is_dropped-clause-collects t c = search walk

pub collect_selection-returns-in-Field-clause-collects : goal.collect_selection-returns-in-Field-clause-collects
collect_selection-returns-in-Field-clause-collects t c = search walk

pub collect_selection-returns-in-Spread-clause-collects : goal.collect_selection-returns-in-Spread-clause-collects
collect_selection-returns-in-Spread-clause-collects t c = search walk

pub collect_selection-returns-in-Inline-clause-collects : goal.collect_selection-returns-in-Inline-clause-collects
collect_selection-returns-in-Inline-clause-collects t c = search walk

pub collect_selection-returns-in-Unknown-clause-collects : goal.collect_selection-returns-in-Unknown-clause-collects
collect_selection-returns-in-Unknown-clause-collects t c = search walk

pub collect_spread-returns-in_default-clause-collects : goal.collect_spread-returns-in_default-clause-collects
collect_spread-returns-in_default-clause-collects t c = search walk

pub collect_spread-is_visited-requires : goal.collect_spread-is_visited-requires
collect_spread-is_visited-requires t c = search walk

pub collect_spread-returns-then-is_visited-clause-collects : goal.collect_spread-returns-then-is_visited-clause-collects
collect_spread-returns-then-is_visited-clause-collects t c = search walk

pub collect_spread-with_visited-requires : goal.collect_spread-with_visited-requires
collect_spread-with_visited-requires t c = search walk

pub collect_spread-returns-then-not-does_fragment_type_apply-clause-collects : goal.collect_spread-returns-then-not-does_fragment_type_apply-clause-collects
collect_spread-returns-then-not-does_fragment_type_apply-clause-collects t c = search walk

pub collect_spread-returns-clause-collects : goal.collect_spread-returns-clause-collects
collect_spread-returns-clause-collects t c = search walk

pub open_set-returns-then-room-eq0-clause-collects : goal.open_set-returns-then-room-eq0-clause-collects
open_set-returns-then-room-eq0-clause-collects t c = search walk

pub open_set-returns-clause-collects : goal.open_set-returns-clause-collects
open_set-returns-clause-collects t c = search walk
