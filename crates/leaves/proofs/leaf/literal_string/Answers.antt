-- A string, a name, or neither. Assumes nothing.
use Rattle.leaves.proofs.Strings.{literaling}
use Rattle.leaves.proofs.leaf.literal_string.Goals as goal

pub returns-in-String : goal.returns-in-String
returns-in-String c = search literaling

pub returns-in-Enum : goal.returns-in-Enum
returns-in-Enum c = search literaling

pub returns-in_default : goal.returns-in_default
returns-in_default c = search literaling
