-- As long as the end is 0, the nodes passed are plain. Assumes nothing.
use mathlib.Core.Path.{◌≡◌, refl, sym}
use mathlib.Core.Bool.{true}
use native.Mathlib.Omega.{arith}
use borrow.Author.Tests.{lt-ltb}
use Rattle.rows.proofs.Every.{all_none, all_more}
use borrow.Author.Rules.{rules}
use Rattle.distinct.proofs.keys.end_of_children.Goals as goal

pub loop-row-init : goal.loop-row-init
loop-row-init c = (search rules, search rules, λ e. all_none _)

pub loop-row-preserved : goal.loop-row-preserved
loop-row-preserved c = (
  search rules,
  search rules,
  λ e. all_more _ c.loop-row.row true (c.loop-row.invariant.2 (omega arith)) (rw (← c.object_rows_at.ensures)
      (sym (lt-ltb _ 2 (c.later_end-end.ensures.2 e)))) refl,
)

pub returns : goal.returns
returns c = let e : c.loop-row.row ≡ c.args.rows = omega arith in
    (search rules, λ z. rw e at (c.loop-row.invariant.2 z))
