-- The operation's plan, and then its groups. Assumes nothing.
use Rattle.running.proofs.Executing.{operation_storable, stopped_before, operation_ready, operation_executed}
use Rattle.running.proofs.run.execute_operation.Goals as goal

pub plan_operation-requires : goal.plan_operation-requires
plan_operation-requires c = operation_storable _ c.requires

pub returns-in-Err : goal.returns-in-Err
returns-in-Err c = stopped_before _ _ _ _ c.in-Err.is c.plan_operation.ensures.planned c.code.ensures c.stopped.ensures

pub execute_selection_set-requires : goal.execute_selection_set-requires
execute_selection_set-requires c = rw c.planned_to.ensures (operation_ready _ c.requires c.plan_operation.ensures.planned c.in-Ok.is c.root_path.ensures.1 c.root_rows.ensures)

pub returns : goal.returns
returns c = operation_executed _ c.requires c.plan_operation.ensures.planned c.in-Ok.is c.root_path.ensures.0
    c.root_path.ensures.1 c.root_rows.ensures (rw c.planned_to.ensures at c.execute_selection_set.ensures)
