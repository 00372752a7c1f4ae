-- The groups of the fields passed stand. Assumes nothing.
use Rattle.planning.proofs.Grouped.{grouping}
use borrow.Author.Rules.{rules}
use Rattle.planning.proofs.groups.put_groups.Goals as goal

pub loop-i-init : goal.loop-i-init
loop-i-init c = search (grouping, rules)

pub loop-i-preserved : goal.loop-i-preserved
loop-i-preserved c = search (grouping, rules)

pub returns : goal.returns
returns c = search (grouping, rules)
