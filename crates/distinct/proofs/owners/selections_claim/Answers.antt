-- Each row passed owns its set alone, and the marks follow; one that does not ends the search. Assumes nothing.
use mathlib.Core.Path.{◌≡◌, sym, ◌∙◌}
use mathlib.Core.Bool.{false≢true}
use native.Mathlib.Omega.{arith}
use Rattle.rows.proofs.Every.{all_none, all_more, all_broken, all_ended}
use borrow.Author.Rules.{rules}
use Rattle.distinct.proofs.owners.selections_claim.Goals as goal

pub loop-row-init : goal.loop-row-init
loop-row-init c = (search rules, all_none _, c.requires)

pub shape_of-marks-then-not-selection_claims : goal.shape_of-marks-then-not-selection_claims
shape_of-marks-then-not-selection_claims c = c.selection_claims.ensures.marked.sized ∙ sym c.requires.sized

pub returns-then-not-selection_claims : goal.returns-then-not-selection_claims
returns-then-not-selection_claims c = record { value = rw (← c.row_count-rows.ensures) (all_broken _ c.loop-row.row _ c.selection_claims.result c.loop-row-test.true c.selection_claims.ensures.value c.if-not-selection_claims.true-raw); marked = λ e. absurd (false≢true e) }

pub loop-row-preserved : goal.loop-row-preserved
loop-row-preserved c = (
  search rules,
  all_more _ c.loop-row.row c.selection_claims.result c.loop-row.invariant.1 c.selection_claims.ensures.value c.if-not-selection_claims.false-raw,
  c.selection_claims.ensures.marked,
)

pub shape_of-marks : goal.shape_of-marks
shape_of-marks c = c.loop-row.invariant.2.sized ∙ sym c.requires.sized

pub returns : goal.returns
returns c = let e : c.loop-row.row ≡ c.row_count-rows.result = omega arith in
    record {
      value = rw (← c.row_count-rows.ensures) (all_ended _ c.loop-row.row _ c.loop-row.invariant.1 c.loop-row.invariant.0 c.loop-row-test.false);
      marked = λ t. rw (← c.row_count-rows.ensures) (rw e at c.loop-row.invariant.2);
    }
