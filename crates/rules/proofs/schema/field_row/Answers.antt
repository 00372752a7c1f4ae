use Rattle.rows.specs.Schema.{field_at}
use Rattle.rules.proofs.schema.field_row.Goals as goal

pub returns : goal.returns
unfolding field_at
returns c = rw (c.field_is_lawful.ensures, c.cell-2.ensures, c.cell.ensures, c.cell-default.ensures, c.cell-ty.ensures, c.cell-name.ensures)
