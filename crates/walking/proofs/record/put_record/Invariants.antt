-- The head, and then a segment of the path at a time. Assumes nothing.
use Prim.Native.Nat.{◌-◌}
use Rattle.walking.proofs.Records.{Recording}
use Rattle.walking.proofs.record.put_record.Given as goal

abbrev pub invariant-loop-i : goal.invariant-loop-i
invariant-loop-i l = Recording l.segments l.count l.initial.errors l.initial.next l.errors l.next l.i
