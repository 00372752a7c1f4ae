-- The table check says whether the tables are lawful; where they are, the walk needs no more of them. Assumes nothing.
use Rattle.tables.specs.Tables.{tables}
use Rattle.introspection.proofs.Reports.{report_unlawful, report_walkable, report_checked}
use Rattle.introspection.proofs.max_depth.depth_check.Goals as goal

pub returns-then-lawful-ne-LAWFUL : goal.returns-then-lawful-ne-LAWFUL
returns-then-lawful-ne-LAWFUL c = report_unlawful _ c.table_check-lawful.ensures c.if-lawful-ne-LAWFUL.true c.answered_by.ensures

pub depth_of_operation-requires : goal.depth_of_operation-requires
depth_of_operation-requires c = report_walkable (tables _ _ _ _ _ _ _ _ _ _ _ _ _ _ _ _) c.table_check-lawful.ensures c.if-lawful-ne-LAWFUL.false

pub returns : goal.returns
returns c = report_checked _ c.table_check-lawful.ensures c.if-lawful-ne-LAWFUL.false c.depth_of_operation.ensures
