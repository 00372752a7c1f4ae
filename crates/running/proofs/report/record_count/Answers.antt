-- The words that are left are those of the records that are left. The measure is how many words are left. Assumes nothing.
use Prim.Native.Nat.{◌+◌}
use native.Mathlib.Omega.{arith}
use Rattle.running.proofs.Counting.{counting_begin, counting_again, counting_end}
use Rattle.running.proofs.report.record_count.Goals as goal

pub loop-at-init : goal.loop-at-init
loop-at-init c = (counting_begin _ _, omega arith)

pub overflow_add-at : goal.overflow_add-at
overflow_add-at c = omega arith

pub overflow_add-segments : goal.overflow_add-segments
overflow_add-segments c = omega arith

pub offset_bounds-errors-at : goal.offset_bounds-errors-at
offset_bounds-errors-at c = omega arith

pub bounds-errors-at : goal.bounds-errors-at
bounds-errors-at c = omega arith

pub overflow_cast-segments : goal.overflow_cast-segments
overflow_cast-segments c = omega (arith, c.type_inv.errors (c.loop-at.at + 2))

pub overflow_add-at-in-loop-at : goal.overflow_add-at-in-loop-at
overflow_add-at-in-loop-at c = omega arith

pub overflow_mul-at : goal.overflow_mul-at
overflow_mul-at c = omega (arith, c.type_inv.errors (c.loop-at.at + 2))

pub overflow_add-at-in-loop-at-2 : goal.overflow_add-at-in-loop-at-2
overflow_add-at-in-loop-at-2 c = omega (arith, c.type_inv.errors (c.loop-at.at + 2))

pub overflow_add-count : goal.overflow_add-count
overflow_add-count c = omega arith

pub loop-at-smaller : goal.loop-at-smaller
loop-at-smaller c = omega arith

pub loop-at-preserved : goal.loop-at-preserved
loop-at-preserved c = (counting_again _ _ c.requires.0 c.loop-at.invariant.0 c.loop-at-test.true, omega (arith, c.type_inv.errors (c.loop-at.at + 2)))

pub returns : goal.returns
returns c = counting_end _ _ c.requires.0 c.loop-at.invariant.0 (omega arith)
