-- With no child set nothing more is collected; with one, its selections are. Assumes nothing.
use Rattle.planning.proofs.Merged.{child}
use borrow.Author.Rules.{rules}
use Rattle.planning.proofs.beneath.collect_child.Goals as goal

pub returns-then-field-eq0-clause-collects : goal.returns-then-field-eq0-clause-collects
returns-then-field-eq0-clause-collects c = search (child, rules)

pub returns-clause-collects : goal.returns-clause-collects
returns-clause-collects c = search (child, rules)
