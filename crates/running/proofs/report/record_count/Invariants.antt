-- The words that are left are those of the records that are left. The measure is how many words are left. Assumes nothing.
use Prim.Native.Nat.{◌-◌, ◌≤◌}
use Rattle.running.proofs.Counting.{Counting}
use Rattle.running.proofs.report.record_count.Given as goal

-- a path is no longer than a word says, so that the position stays a number that can be added to
abbrev pub invariant-loop-at : goal.invariant-loop-at
invariant-loop-at l = Counting l.errors l.words l.at l.count × (l.at ≤ 9000000000)

abbrev pub decreases-loop-at : goal.decreases-loop-at
decreases-loop-at l = l.words - l.at
