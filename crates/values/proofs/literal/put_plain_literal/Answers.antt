-- Each variant that is neither a container nor a variable is written by its own writer. Assumes nothing.
use Rattle.values.proofs.Literals.{plain}
use Rattle.values.proofs.literal.put_plain_literal.Goals as goal

pub returns-in-False : goal.returns-in-False
returns-in-False c = search plain

pub returns-in-True : goal.returns-in-True
returns-in-True c = search plain

pub returns-in-Natural : goal.returns-in-Natural
returns-in-Natural c = search plain

pub returns-in-Negative : goal.returns-in-Negative
returns-in-Negative c = search plain

pub returns-in-Float : goal.returns-in-Float
returns-in-Float c = search plain

pub returns-in-String : goal.returns-in-String
returns-in-String c = search plain

pub returns-in-Enum : goal.returns-in-Enum
returns-in-Enum c = search plain

pub returns-in_default : goal.returns-in_default
returns-in_default c = search plain
