use Rattle.rows.specs.Json.{literal_at}
use Rattle.rules.proofs.json.literal_row.Goals as goal

pub returns : goal.returns
unfolding literal_at
returns c = rw (c.literal_key.ensures, c.literal_is_lawful-lawful.ensures, c.cell-b.ensures, c.cell-a.ensures, c.cell-kind.ensures)
