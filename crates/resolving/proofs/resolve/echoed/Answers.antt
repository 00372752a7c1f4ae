-- What is echoed is where the argument's value stands. Assumes nothing.
use mathlib.Core.Path.{ap, ◌∙◌}
use Rattle.resolving.proofs.Taking.{echo_absent, echo_source}
use Rattle.resolving.proofs.resolve.echoed.Goals as goal

pub returns-in_default : goal.returns-in_default
returns-in_default c = echo_absent c.argument_source.ensures c.in_default.is

pub returns : goal.returns
returns c = rw c.from.ensures (echo_source c.argument_source.ensures c.in-Some.source c.in-Some.is)
