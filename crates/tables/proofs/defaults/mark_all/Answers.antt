-- From the last row on the runs are right; the parts of a literal come later, and theirs are kept already. Assumes nothing.
use Rattle.tables.proofs.Closed.{mark_turn}
use borrow.Author.Rules.{rules}
use native.Mathlib.Omega.{arith}
use Rattle.tables.proofs.defaults.mark_all.Goals as goal

pub loop-row-preserved : goal.loop-row-preserved
loop-row-preserved c = (search rules, mark_turn c.args.literals.now c.requires.nested _ _ c.loop-row.row (omega arith) c.loop-row.invariant.0 c.loop-row.invariant.1 c.mark_row.ensures)
