-- No row is so wide that its start would wrap. Assumes nothing.
use native.Mathlib.Omega.{arith}
use Rattle.table_file.proofs.Amounts.{row_fits}
use Rattle.table_file.proofs.layout.row_start.Goals as goal

pub overflow_mul-result : goal.overflow_mul-result
overflow_mul-result c = record { fits = rw c.row_width.ensures (row_fits _ _ (omega arith)) }
