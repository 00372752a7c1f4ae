-- The variable is absent, or it has a node. Assumes nothing.
use Rattle.echoing.proofs.Sources.{variable_default, variable_node}
use Rattle.echoing.proofs.echo.variable_source.Goals as goal

pub returns-in_default : goal.returns-in_default
returns-in_default c = search variable_default

pub returns : goal.returns
returns c = search variable_node
