-- The text of each kind of leaf. Assumes nothing.
use Rattle.leaves.proofs.Puts.{putting}
use Rattle.leaves.proofs.leaf.put_leaf.Goals as goal

pub put_checked_literal-requires : goal.put_checked_literal-requires
put_checked_literal-requires c = search putting

pub returns-in-Node : goal.returns-in-Node
returns-in-Node c = search putting

pub returns-in-Name : goal.returns-in-Name
returns-in-Name c = search putting

pub returns-in-Literal : goal.returns-in-Literal
returns-in-Literal c = search putting

pub returns-in-Default : goal.returns-in-Default
returns-in-Default c = search putting
