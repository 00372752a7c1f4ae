-- The groups passed have other keys. Assumes nothing.
use Rattle.planning.proofs.Words.{Seeking}
use Rattle.planning.proofs.groups.group_with.Given as goal

abbrev pub invariant-loop-i : goal.invariant-loop-i
invariant-loop-i l = Seeking l.plans l.first l.groups l.key l.i
