-- The groups, the head and, where some group has several fields, the fields. Assumes nothing.
use Rattle.planning.proofs.Standing.{plan_single, plan_several}
use Rattle.planning.proofs.plan.put_plan.Goals as goal

pub returns-then-groups-count : goal.returns-then-groups-count
returns-then-groups-count c = plan_single c.put_groups-groups.ensures c.requires c.put_head.ensures c.if-groups-count.true

pub returns : goal.returns
returns c = plan_several c.put_groups-groups.ensures c.requires c.put_head.ensures c.if-groups-count.false
    c.put_fields.ensures
