-- With no choices each set takes its groups as they stand. Assumes nothing.
use Rattle.graphql.specs.Report.{report_in_order}
use Rattle.running.proofs.run.run.Goals as goal

pub returns : goal.returns
unfolding report_in_order
returns c = c.run_ordered.ensures
