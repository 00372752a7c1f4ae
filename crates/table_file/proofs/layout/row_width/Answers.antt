-- Past the sixteen widths `get_or` gives its default. Assumes nothing.
use Rattle.table_file.specs.Sizes.{width_of}
use Rattle.std.proofs.lemmas.Grind.{common_steps}
use native.Mathlib.Omega.{arith}
use Rattle.table_file.proofs.layout.row_width.Goals as goal

pub returns : goal.returns
unfolding width_of
returns c = grind (arith, common_steps)
