-- A string or not. Assumes nothing.
use Rattle.leaves.proofs.Strings.{noding}
use Rattle.leaves.proofs.leaf.node_string.Goals as goal

pub returns-in-String : goal.returns-in-String
returns-in-String c = search noding

pub returns-in_default : goal.returns-in_default
returns-in_default c = search noding
