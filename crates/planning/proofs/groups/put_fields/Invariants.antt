-- The fields passed stand in their rows. Assumes nothing.
use Prim.Native.Nat.{◌≤◌}
use Rattle.planning.specs.Plans.{PutFields}
use Rattle.planning.proofs.groups.put_fields.Given as goal

abbrev pub invariant-loop-i : goal.invariant-loop-i
invariant-loop-i l = PutFields l.list l.owners l.first l.i l.initial.plans l.plans × (l.i ≤ l.count)
