-- Any answer but an object has no rows. Assumes nothing.
use Rattle.running.proofs.Executing.{rows_object, rows_other}
use Rattle.running.proofs.run.root_rows.Goals as goal

pub returns-in-Object : goal.returns-in-Object
returns-in-Object c = search rows_object

pub returns : goal.returns
returns c = search rows_other
