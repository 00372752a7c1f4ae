-- Each row passed owns its set alone, and the marks follow; one that does not ends the search. Assumes nothing.
use mathlib.Core.Path.{sym, ◌∙◌}
use Rattle.rows.proofs.Every.{all_none, all_more, all_broken, all_ended}
use borrow.Author.Rules.{rules}
use Rattle.distinct.proofs.owners.fragments_claim.Goals as goal

pub loop-row-init : goal.loop-row-init
loop-row-init c = (search rules, all_none _, c.requires)

pub shape_of-marks-then-not-fragment_claims : goal.shape_of-marks-then-not-fragment_claims
shape_of-marks-then-not-fragment_claims c = c.fragment_claims.ensures.marked.sized ∙ sym c.requires.sized

pub returns-then-not-fragment_claims : goal.returns-then-not-fragment_claims
returns-then-not-fragment_claims c = rw (← c.row_count-rows.ensures)
    (all_broken _ c.loop-row.row _ c.fragment_claims.result c.loop-row-test.true c.fragment_claims.ensures.value c.if-not-fragment_claims.true-raw)

pub loop-row-preserved : goal.loop-row-preserved
loop-row-preserved c = (
  search rules,
  all_more _ c.loop-row.row c.fragment_claims.result c.loop-row.invariant.1 c.fragment_claims.ensures.value c.if-not-fragment_claims.false-raw,
  c.fragment_claims.ensures.marked,
)

pub shape_of-marks : goal.shape_of-marks
shape_of-marks c = c.loop-row.invariant.2.sized ∙ sym c.requires.sized

pub returns : goal.returns
returns c = rw (← c.row_count-rows.ensures) (all_ended _ c.loop-row.row _ c.loop-row.invariant.1 c.loop-row.invariant.0 c.loop-row-test.false)
