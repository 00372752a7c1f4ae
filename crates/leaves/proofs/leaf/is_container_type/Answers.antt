-- The type is no named one, or it is not defined, or of another kind, or an input object. Assumes nothing.
use Rattle.leaves.proofs.Sorts.{containing}
use Rattle.leaves.proofs.leaf.is_container_type.Goals as goal

pub returns-in_default : goal.returns-in_default
returns-in_default c = search containing

pub returns-in_default-type_named : goal.returns-in_default-type_named
returns-in_default-type_named c = search containing

pub returns-in_default-matches : goal.returns-in_default-matches
returns-in_default-matches c = search containing

pub returns-in-InputObject : goal.returns-in-InputObject
returns-in-InputObject c = search containing
