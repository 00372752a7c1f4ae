-- A row among the names is a small number. Assumes nothing.
use Rattle.table_file.proofs.Amounts.{few_found}
use Rattle.table_file.proofs.names.find_name.Goals as goal

pub returns : goal.returns
returns c = few_found _ _ _ _ c.args.store.now.filled.within (rw c.held-held.ensures at c.table.ensures) c.first_row.ensures
