-- The first word of the last table; where it has none, `get_or` gives its default. Assumes nothing.
use Rattle.table_file.specs.Held.{root_of}
use Rattle.std.proofs.lemmas.Grind.{common_steps}
use native.Mathlib.Omega.{arith}
use Rattle.table_file.proofs.held.Held.root.Goals as goal

pub returns : goal.returns
unfolding root_of
returns c = grind (arith, common_steps)
