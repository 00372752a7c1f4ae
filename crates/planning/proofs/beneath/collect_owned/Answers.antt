-- A field of another group is passed. Assumes nothing.
use Rattle.planning.proofs.Merged.{child}
use borrow.Author.Rules.{rules}
use Rattle.planning.proofs.beneath.collect_owned.Goals as goal

pub returns-then-owner-group-clause-collects : goal.returns-then-owner-group-clause-collects
returns-then-owner-group-clause-collects c = search (child, rules)

pub returns-clause-collects : goal.returns-clause-collects
returns-clause-collects c = search (child, rules)
