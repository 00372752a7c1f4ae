-- Each turn leaves a record behind. Assumes nothing.
use lib.ListN.{length}
use Rattle.telling.proofs.print.print_errors.Given as goal

abbrev pub decreases-loop-rest : goal.decreases-loop-rest
decreases-loop-rest g l = length l.rest
