-- Each way leads on past selections whose child sets are larger, and so do two of them. Assumes nothing.
use Prim.Native.Nat.{◌-◌}
use Rattle.tables.specs.ByTable.{Skips, LargerUpTo}
use Rattle.tables.proofs.document.first_unlooked.Given as goal

abbrev pub invariant-loop-skips : goal.invariant-loop-skips
invariant-loop-skips l = Skips l.selections l.set l.skips × LargerUpTo l.selections l.set l.from l.row

abbrev pub decreases-loop-skips : goal.decreases-loop-skips
decreases-loop-skips l = 2048 - l.row
