-- The fields passed stand in their rows. Assumes nothing.
use native.Mathlib.Omega.{arith}
use lib.ListN.{length-set}
use Rattle.planning.proofs.Words.{fielding}
use borrow.Author.Rules.{rules}
use Rattle.planning.proofs.groups.put_fields.Goals as goal

pub loop-i-init : goal.loop-i-init
loop-i-init c = search (fielding, rules)

pub bounds-plans-first-in-loop-i : goal.bounds-plans-first-in-loop-i
bounds-plans-first-in-loop-i c = simp length-set (omega arith)

pub loop-i-preserved : goal.loop-i-preserved
loop-i-preserved c = search (fielding, rules)

pub returns : goal.returns
returns c = search (fielding, rules)
