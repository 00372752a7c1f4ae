-- The five functions of the walk, by one induction: the sets that may still be opened fall. Assumes nothing.
use mathlib.Core.Path.{◌≡◌, refl}
use Rattle.std.specs.Prelude.{Err}
use native.Mathlib.Omega.{arith}
use borrow.Author.Rules.{rules}
use Rattle.introspection.proofs.Walk.{walk_on, child_none, child_checked, field_same, field_deep, field_raised, a_field, a_spread, an_inline, an_unknown}
use Rattle.introspection.proofs.Walk.{mark_there, mark_kept, spread_undefined, again_deep, again_level, spread_stopped, spread_met}
use Rattle.introspection.proofs.Walk.{set_full, set_begin, going_again, set_stopped, set_ended}
use Rattle.introspection.proofs.max_depth.+check_child_set_check_field_check_selection_check_selection_set_check_spread.Goals as goal

ruleset childs = (child_none, child_checked, rules)

ruleset fields = (walk_on, field_same, field_raised, rules)

ruleset selected = (a_field, a_spread, an_inline, an_unknown, rules)

ruleset sets = (walk_on, set_full, set_begin, going_again, set_stopped, set_ended, rules)

ruleset spreads = (mark_there, mark_kept, spread_undefined, again_deep, again_level, spread_stopped, spread_met, rules)

pub check_child_set-returns-then-set-eq0 : goal.check_child_set-returns-then-set-eq0
check_child_set-returns-then-set-eq0 t c = search childs

pub check_child_set-returns : goal.check_child_set-returns
check_child_set-returns t c = search childs

pub check_field-returns-then-not-is_list : goal.check_field-returns-then-not-is_list
check_field-returns-then-not-is_list t c = search fields

pub check_field-returns-then-depth-ge-MAX_LISTS_DEPTH : goal.check_field-returns-then-depth-ge-MAX_LISTS_DEPTH
check_field-returns-then-depth-ge-MAX_LISTS_DEPTH t c = field_deep _ _ _ _ _ _ _ c.is_list.ensures (rw c.if-not-is_list.false) (omega arith)

pub check_field-returns : goal.check_field-returns
check_field-returns t c = search fields

pub check_selection-returns-in-Field : goal.check_selection-returns-in-Field
check_selection-returns-in-Field t c = search selected

pub check_selection-returns-in-Spread : goal.check_selection-returns-in-Spread
check_selection-returns-in-Spread t c = search selected

pub check_selection-returns-in-Inline : goal.check_selection-returns-in-Inline
check_selection-returns-in-Inline t c = search selected

pub check_selection-returns-in-Unknown : goal.check_selection-returns-in-Unknown
check_selection-returns-in-Unknown t c = search selected

pub check_selection_set-returns-then-room-eq0 : goal.check_selection_set-returns-then-room-eq0
check_selection_set-returns-then-room-eq0 t c = search sets

pub check_selection_set-loop-i-preserved : goal.check_selection_set-loop-i-preserved
check_selection_set-loop-i-preserved t c =
    let m = c.max-max_depth.ensures in
    going_again _ _ _ _ _ _ _ _ c.loop-i.invariant (search rules) c.check_selection.ensures c.in_ok-depth.was (search rules)

pub check_selection_set-returns-in_err-depth : goal.check_selection_set-returns-in_err-depth
check_selection_set-returns-in_err-depth t c =
    let e : c.from_residual.result ≡ Err c.in_err-depth.field-0.0 = search rules in
    rw e (set_stopped _ _ _ _ _ _ (search rules) c.set_at-range.ensures c.loop-i.invariant (search rules) c.check_selection.ensures c.in_err-depth.was)

pub check_spread-slice_copy_out-met : goal.check_spread-slice_copy_out-met
check_spread-slice_copy_out-met t c = mark_there _ c.requires c.fragment_named-found.ensures c.in-Some.is

pub check_spread-returns-then-rise-depth_so_far : goal.check_spread-returns-then-rise-depth_so_far
check_spread-returns-then-rise-depth_so_far t c =
    again_deep _ _ _ _ _ _ _ c.fragment_named-found.ensures c.in-Some.is refl c.in-Some-met.is c.requires.shallow (search rules)

pub check_spread-returns-in-Some-met : goal.check_spread-returns-in-Some-met
check_spread-returns-in-Some-met t c =
    again_level _ _ _ _ _ _ _ c.fragment_named-found.ensures c.in-Some.is refl c.in-Some-met.is c.requires.shallow (search rules)

pub check_spread-returns-in_err-depth : goal.check_spread-returns-in_err-depth
check_spread-returns-in_err-depth t c =
    let e : c.from_residual.result ≡ Err c.in_err-depth.field-0.0 = search rules in
    rw e (spread_stopped _ _ _ _ _ _ _ c.fragment_named-found.ensures c.in-Some.is refl (search rules) c.fragment_at-fragment.ensures c.check_selection_set.ensures c.in_err-depth.was)

pub check_spread-bounds-rises-at : goal.check_spread-bounds-rises-at
check_spread-bounds-rises-at t c = mark_kept _ c.requires c.fragment_named-found.ensures c.in-Some.is c.check_selection_set.ensures

pub check_spread-returns : goal.check_spread-returns
check_spread-returns t c =
    spread_met _ _ _ _ _ _ _ c.fragment_named-found.ensures c.in-Some.is refl (search rules) c.fragment_at-fragment.ensures c.check_selection_set.ensures c.requires c.in_ok-depth.was c.saturating_sub.ensures

pub check_selection_set-returns : goal.check_selection_set-returns
check_selection_set-returns t c = search sets

pub check_spread-returns-in_default : goal.check_spread-returns-in_default
check_spread-returns-in_default t c = search spreads
