-- The child sets of the selections passed are larger; one that is not ends the search. Assumes nothing.
use mathlib.Core.Path.{◌≡◌}
use Prim.Native.Nat.{◌<◌, ◌+◌}
use native.Mathlib.Omega.{arith}
use Rattle.rows.proofs.Every.{verified}
use Rattle.tables.proofs.Skips.{skips_set, larger_more, larger_all, larger_broken}
use Rattle.tables.proofs.document.children_are_larger.Goals as goal

pub first_unlooked-row-requires : goal.first_unlooked-row-requires
first_unlooked-row-requires c = record { skips = c.requires.skips; from_le_most_selections = omega (arith, c.requires.count_bound) }

pub loop-row-init : goal.loop-row-init
loop-row-init c = (c.first_unlooked-row.ensures.skips_2, c.first_unlooked-row.ensures.larger_up_to)

pub child_is_larger-requires : goal.child_is_larger-requires
child_is_larger-requires c = omega (arith, c.loop-row.invariant.1.high)

pub shape_of-skips-then-not-child_is_larger : goal.shape_of-skips-then-not-child_is_larger
shape_of-skips-then-not-child_is_larger c = omega (arith, c.loop-row.invariant.0.room, c.requires.skips.room)

pub returns-then-not-child_is_larger : goal.returns-then-not-child_is_larger
returns-then-not-child_is_larger c = record { value = larger_broken _ _ _ c.loop-row.row _ c.loop-row.invariant.1.low c.loop-row-test.true c.child_is_larger.ensures c.if-not-child_is_larger.true-raw; skips_2 = c.loop-row.invariant.0 }

pub overflow_add-skips : goal.overflow_add-skips
overflow_add-skips c = omega (arith, c.loop-row.invariant.1.high)

pub overflow_cast-skips : goal.overflow_cast-skips
overflow_cast-skips c = omega (arith, c.loop-row.invariant.1.high)

pub offset_bounds-skips-row : goal.offset_bounds-skips-row
offset_bounds-skips-row c = omega (arith, c.loop-row.invariant.1.high)

pub bounds-skips-row : goal.bounds-skips-row
bounds-skips-row c = omega (arith, c.loop-row.invariant.0.room, c.loop-row.invariant.1.high)

pub overflow_add-row : goal.overflow_add-row
overflow_add-row c = omega (arith, c.loop-row.invariant.1.high)

pub first_unlooked-row-requires-in-loop-row : goal.first_unlooked-row-requires-in-loop-row
first_unlooked-row-requires-in-loop-row c = let under : c.loop-row.row < 2048 = omega (arith, c.loop-row-test.true, c.requires.count_bound) in record { skips = skips_set _ _ _ c.loop-row.invariant.0 c.loop-row.row (c.loop-row.row + 1) (omega arith) (omega arith) (λ j a b. let same : c.loop-row.row ≡ j = omega arith in rw (← same) (verified _ _ c.child_is_larger.ensures c.if-not-child_is_larger.false-raw)); from_le_most_selections = omega arith }

pub loop-row-smaller : goal.loop-row-smaller
loop-row-smaller c = omega (arith, c.first_unlooked-row-in-loop-row.ensures.larger_up_to.low, c.loop-row.invariant.1.high)

pub loop-row-preserved : goal.loop-row-preserved
loop-row-preserved c = (c.first_unlooked-row-in-loop-row.ensures.skips_2, larger_more _ _ _ c.loop-row.row _ c.loop-row.invariant.1 (verified _ _ c.child_is_larger.ensures c.if-not-child_is_larger.false-raw) c.first_unlooked-row-in-loop-row.ensures.larger_up_to)

pub shape_of-skips : goal.shape_of-skips
shape_of-skips c = omega (arith, c.loop-row.invariant.0.room, c.requires.skips.room)

pub returns : goal.returns
returns c = record { value = larger_all _ _ _ c.loop-row.row c.loop-row.invariant.1 c.loop-row-test.false; skips_2 = c.loop-row.invariant.0 }
