-- The rows passed do not ask for the schema; the first that does ends the search. Assumes nothing.
use Prim.Native.Nat.{◌-◌}
use Rattle.running.proofs.Asking.{Unasked}
use Rattle.running.proofs.introspect.introspects.Given as goal

abbrev pub invariant-loop-row : goal.invariant-loop-row
invariant-loop-row l = Unasked l.selections l.count l.row
