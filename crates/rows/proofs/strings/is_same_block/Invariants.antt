-- Texts of one length are the same just if they agree at every place. Assumes nothing.
use mathlib.Core.Path.{◌≡◌}
use lib.ListN.{take}
use Rattle.rows.specs.Strings.{same}
use Rattle.rows.proofs.strings.is_same_block.Given as goal

abbrev pub invariant-loop-i : goal.invariant-loop-i
invariant-loop-i l = l.agree ≡ same (take l.i l.a) (take l.i l.b)
