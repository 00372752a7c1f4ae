use Rattle.tables.specs.Lawful.{lawful_choices}
use mathlib.Core.Path.{refl}
use Rattle.tables.proofs.check.choices_are_lawful.Goals as goal

pub returns : goal.returns
unfolding lawful_choices
returns c = refl
