-- Both buffers are cleared from their beginning on. Assumes nothing.
use Rattle.running.proofs.Ended.{refuse_reports}
use Rattle.running.proofs.report.refuse.Goals as goal

pub returns : goal.returns
returns c = search refuse_reports
