-- The sum is the definition's at each group. Assumes nothing.
use mathlib.Core.Path.{◌≡◌}
use Prim.Native.Nat.{◌+◌, ◌-◌}
use native.Mathlib.Omega.{arith}
use Rattle.ordering.proofs.SpanLaws.{add_begin, add_again, add_end}
use Rattle.ordering.proofs.order.entry_start.Goals as goal

pub loop-span-init : goal.loop-span-init
loop-span-init c = add_begin (omega arith)

pub loop-span-preserved : goal.loop-span-preserved
loop-span-preserved c =
    let e : c.args.base + c.args.group - c.args.base ≡ c.args.group = omega arith in
    add_again c.loop-span.invariant (rw e at c.loop-span-test.true) (rw e at c.past_entry-sum.ensures)

pub returns : goal.returns
returns c =
    let e : c.args.base + c.args.group - c.args.base ≡ c.args.group = omega arith in
    add_end c.loop-span.invariant (rw e at c.loop-span-test.false)
