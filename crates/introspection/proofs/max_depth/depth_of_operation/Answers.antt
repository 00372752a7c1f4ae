-- Nothing is marked at first, so the walk comes to what the definition says with nothing remembered. Assumes nothing.
use Rattle.introspection.proofs.Reports.{reported}
use Rattle.introspection.proofs.max_depth.depth_of_operation.Goals as goal

pub returns : goal.returns
returns c = reported _ _ c.requires c.check_selection_set.ensures c.answer.ensures
