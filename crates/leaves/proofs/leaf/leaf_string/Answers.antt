-- The bytes of each kind of leaf. Assumes nothing.
use Rattle.leaves.proofs.Strings.{spelling}
use Rattle.leaves.proofs.leaf.leaf_string.Goals as goal

pub returns-in-Node : goal.returns-in-Node
returns-in-Node c = search spelling

pub returns-in-Name : goal.returns-in-Name
returns-in-Name c = search spelling

pub returns-in-Literal : goal.returns-in-Literal
returns-in-Literal c = search spelling
