use Rattle.rows.specs.Json.{node_at}
use Rattle.rules.proofs.json.node_row.Goals as goal

pub returns : goal.returns
unfolding node_at
returns c = rw (c.node_is_lawful.ensures, c.cell-b.ensures, c.cell-a.ensures, c.cell-kind.ensures)
