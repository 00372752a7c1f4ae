-- Of a sequence that is half read, the number so far and what is still to come decide. Assumes nothing.
use Rattle.text.proofs.utf8.Decoding.{Half}
use Rattle.text.proofs.utf8.decode_sequence.Given as goal

abbrev pub invariant-loop-i : goal.invariant-loop-i
invariant-loop-i g l = Half l.s l.at g.row.N l.point l.i
