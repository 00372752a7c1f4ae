use Rattle.tables.specs.Lawful.{lawful_buffers}
use mathlib.Core.Path.{refl}
use Rattle.tables.proofs.check.buffers_are_lawful.Goals as goal

pub returns : goal.returns
unfolding lawful_buffers
returns c = refl
