-- The list is full, or the row is put after those that it has. Assumes nothing.
use native.Mathlib.Omega.{arith}
use Rattle.collecting.proofs.Walk.{field_full, field_put}
use Rattle.collecting.proofs.collect.collect_field.Goals as goal

pub returns-then-count-ge-MOST_COLLECTED-clause-collects : goal.returns-then-count-ge-MOST_COLLECTED-clause-collects
returns-then-count-ge-MOST_COLLECTED-clause-collects c = field_full _ (omega arith)

pub returns-clause-collects : goal.returns-clause-collects
returns-clause-collects c = field_put _ (omega arith)
