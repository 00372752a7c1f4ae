-- The one that a hint leads to, or a new one. Assumes nothing.
use native.Mathlib.Omega.{arith}
use Rattle.planning.proofs.Found.{plans_found, plans_none}
use Rattle.planning.proofs.plan.plan_for.Goals as goal

pub overflow_cast-hint : goal.overflow_cast-hint
overflow_cast-hint c = omega (arith, c.type_inv.hints c.hint_at-slot.result)

pub returns-then-is_plan_for-clause-planned : goal.returns-then-is_plan_for-clause-planned
returns-then-is_plan_for-clause-planned c = plans_found c.requires.0 c.is_plan_for.ensures c.if-is_plan_for.true

pub returns-then-plans-top-clause-planned : goal.returns-then-plans-top-clause-planned
returns-then-plans-top-clause-planned c = plans_none c.requires.0
