-- The words lent are those that the file holds. Assumes nothing.
use Rattle.verdict.proofs.Held.{held_by}
use Rattle.verdict.proofs.entries.code.Goals as goal

pub returns : goal.returns
returns c = rw (held_by _ _ _ _ c.tables.ensures) at c.table_check.ensures
