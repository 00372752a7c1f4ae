-- Refused before the walk, or walked and reported. Assumes nothing.
use Rattle.running.proofs.Refusing.{report_refused, tables_lawful, sizes_kept, report_answered}
use Rattle.running.proofs.run.run_ordered.Goals as goal

pub returns-in-Some : goal.returns-in-Some
returns-in-Some c = report_refused _ _ _ _ c.refusal-refused.ensures c.in-Some.is (rw c.code.ensures at c.refuse.ensures)

pub execute_operation-d-requires : goal.execute_operation-d-requires
execute_operation-d-requires c = tables_lawful _ _ _ _ c.refusal-refused.ensures c.in_default.is

pub report_end-requires : goal.report_end-requires
report_end-requires c = sizes_kept _ _ _ _ c.refusal-refused.ensures c.in_default.is c.execute_operation-d.ensures

pub returns : goal.returns
returns c = report_answered _ _ _ _ c.refusal-refused.ensures c.in_default.is c.execute_operation-d.ensures c.report_end.ensures
