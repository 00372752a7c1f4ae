-- The sort of each kind of leaf. Assumes nothing.
use Rattle.leaves.proofs.Sorts.{leafed}
use Rattle.leaves.proofs.leaf.leaf_sort.Goals as goal

pub returns-in-Node : goal.returns-in-Node
returns-in-Node c = search leafed

pub returns-in-Name : goal.returns-in-Name
returns-in-Name c = search leafed

pub returns-in-Literal : goal.returns-in-Literal
returns-in-Literal c = search leafed

pub returns-in-Default : goal.returns-in-Default
returns-in-Default c = search leafed
