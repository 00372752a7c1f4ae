-- By whether each group has one field. Assumes nothing.
use Rattle.planning.proofs.Merged.{beneath}
use borrow.Author.Rules.{rules}
use Rattle.planning.proofs.beneath.collect_group.Goals as goal

pub returns-then-groups-fields-clause-gathers : goal.returns-then-groups-fields-clause-gathers
returns-then-groups-fields-clause-gathers c = search (beneath, rules)

pub collect_children-requires : goal.collect_children-requires
collect_children-requires c = search (beneath, rules)

pub returns-clause-gathers : goal.returns-clause-gathers
returns-clause-gathers c = search (beneath, rules)
