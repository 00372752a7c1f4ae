use Rattle.rows.specs.Schema.{type_ref_at}
use Rattle.rules.proofs.schema.type_ref_row.Goals as goal

pub returns : goal.returns
unfolding type_ref_at
returns c = rw (c.type_ref_is_lawful.ensures, c.cell-of.ensures, c.cell-non_null.ensures, c.cell-kind.ensures)
