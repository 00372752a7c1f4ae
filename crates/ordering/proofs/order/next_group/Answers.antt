-- Where the groups taken are the first ones the choice itself says which; else the one that it says is looked for. Assumes nothing.
use native.Mathlib.Omega.{arith}
use Rattle.ordering.proofs.SpanLaws.{next_in_order, next_sought}
use Rattle.ordering.proofs.order.next_group.Goals as goal

pub overflow_add-result : goal.overflow_add-result
overflow_add-result c = omega (arith, c.choose-skip.ensures, next_sought c.args.choices.now c.args.choice c.requires)

pub returns-then-low-taken : goal.returns-then-low-taken
returns-then-low-taken c = rw c.choose-skip.ensures (next_in_order c.args.choices.now c.args.choice c.requires c.if-low-taken.true)

pub open_at-requires : goal.open_at-requires
open_at-requires c = (c.requires.room, omega arith, c.requires.lowest, rw c.choose-skip.ensures (next_sought c.args.choices.now c.args.choice c.requires))

pub returns : goal.returns
returns c = rw (c.open_at.ensures, c.choose-skip.ensures)
