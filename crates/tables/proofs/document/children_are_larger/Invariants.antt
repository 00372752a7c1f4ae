-- The child sets of the selections passed are larger; one that is not ends the search. Assumes nothing.
use Prim.Native.Nat.{◌-◌}
use Rattle.tables.specs.ByTable.{Skips, LargerUpTo}
use Rattle.tables.proofs.document.children_are_larger.Given as goal

abbrev pub invariant-loop-row : goal.invariant-loop-row
invariant-loop-row l = Skips l.selections l.set l.skips × LargerUpTo l.selections l.set l.first l.row

abbrev pub decreases-loop-row : goal.decreases-loop-row
decreases-loop-row l = 2049 - l.row
