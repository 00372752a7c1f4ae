-- Each variant that is no container is written by its own writer. Assumes nothing.
use Rattle.values.proofs.Nodes.{plain}
use Rattle.values.proofs.plain.put_plain.Goals as goal

pub returns-in-False : goal.returns-in-False
returns-in-False c = search plain

pub returns-in-True : goal.returns-in-True
returns-in-True c = search plain

pub returns-in-Natural : goal.returns-in-Natural
returns-in-Natural c = search plain

pub returns-in-Negative : goal.returns-in-Negative
returns-in-Negative c = search plain

pub returns-in-Float : goal.returns-in-Float
returns-in-Float c = search plain

pub returns-in-String : goal.returns-in-String
returns-in-String c = search plain

pub returns-in_default : goal.returns-in_default
returns-in_default c = search plain
