-- The test says which of the two a segment is. Assumes nothing.
use Rattle.writing.proofs.WritesLaws.{same}
use Rattle.telling.proofs.Telling.{name_told, index_told}
use Rattle.telling.proofs.lines.put_segment.Goals as goal

pub returns-then-kind-eq-NAME : goal.returns-then-kind-eq-NAME
returns-then-kind-eq-NAME c = same (name_told c.args.tables.now.pool.now c.args.tables.now.names.now c.args.value c.if-kind-eq-NAME.true) (same c.name_text.ensures c.put_all.ensures)

pub returns : goal.returns
returns c = same (index_told c.args.tables.now.pool.now c.args.tables.now.names.now c.args.value c.if-kind-eq-NAME.false) c.put_natural.ensures
