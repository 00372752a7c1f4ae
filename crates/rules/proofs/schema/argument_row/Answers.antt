use Rattle.rows.specs.Schema.{argument_at}
use Rattle.rules.proofs.schema.argument_row.Goals as goal

pub returns : goal.returns
unfolding argument_at
returns c = rw (c.is_typed.ensures, c.cell-default.ensures, c.cell-ty.ensures, c.cell-name.ensures)
