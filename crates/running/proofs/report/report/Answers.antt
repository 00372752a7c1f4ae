-- The text against its buffer, then the records against theirs. Assumes nothing.
use Rattle.running.proofs.Ended.{report_text_too_long, report_records_too_long, report_fits}
use Rattle.running.proofs.report.report.Goals as goal

pub returns-then-text-at : goal.returns-then-text-at
returns-then-text-at c = search report_text_too_long

pub returns-then-errors-errs : goal.returns-then-errors-errs
returns-then-errors-errs c = search report_records_too_long

pub returns : goal.returns
returns c = search report_fits
