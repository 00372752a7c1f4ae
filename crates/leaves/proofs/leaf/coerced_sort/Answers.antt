-- Null, a container, or of its own sort. Assumes nothing.
use Rattle.leaves.proofs.Sorts.{sorting}
use Rattle.leaves.proofs.leaf.coerced_sort.Goals as goal

pub returns-in-Null : goal.returns-in-Null
returns-in-Null c = search sorting

pub returns-then-is_container_type : goal.returns-then-is_container_type
returns-then-is_container_type c = search sorting

pub returns : goal.returns
returns c = search sorting
