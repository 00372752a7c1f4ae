-- Each row passed is new, and its word is marked; a row that is not new ends the search. Assumes nothing.
use borrow.Author.Rules.{rules}
use Rattle.rules.specs.Rows.{distinct}
use Rattle.rows.proofs.Every.{every}
use Rattle.rules.proofs.MetWords.{met_none}
use Rattle.rules.proofs.layout.is_distinct.Goals as goal

pub loop-i-init : goal.loop-i-init
loop-i-init c = (search rules, search every, met_none _ _ _ _)

pub returns-then-not-is_new_by_marks : goal.returns-then-not-is_new_by_marks
unfolding distinct
returns-then-not-is_new_by_marks c = search (every, rules)

pub loop-i-preserved : goal.loop-i-preserved
loop-i-preserved c = (search rules, search (every, rules), c.is_new_by_marks.ensures.met_2)

pub returns : goal.returns
unfolding distinct
returns c = search (every, rules)
