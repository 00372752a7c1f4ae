-- The six words of the row are put one behind the other. Assumes nothing.
use native.Mathlib.Omega.{arith}
use lib.ListN.{length-set}
use Rattle.planning.proofs.Words.{put_row}
use borrow.Author.Rules.{rules}
use Rattle.planning.proofs.groups.put_group.Goals as goal

pub bounds-plans-at-2 : goal.bounds-plans-at-2
bounds-plans-at-2 c = simp length-set (omega arith)

pub bounds-plans-at-3 : goal.bounds-plans-at-3
bounds-plans-at-3 c = simp length-set (omega arith)

pub bounds-plans-at-4 : goal.bounds-plans-at-4
bounds-plans-at-4 c = simp length-set (omega arith)

pub bounds-plans-at-5 : goal.bounds-plans-at-5
bounds-plans-at-5 c = simp length-set (omega arith)

pub bounds-plans-at-6 : goal.bounds-plans-at-6
bounds-plans-at-6 c = simp length-set (omega arith)

pub shape_of-plans : goal.shape_of-plans
shape_of-plans c = simp length-set

pub returns : goal.returns
returns c = search (put_row, rules)
