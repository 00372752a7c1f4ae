-- Texts are the same just if what is left of them is, behind parts that are; and where the last bytes are the same too, all are.
-- Assumes nothing.
use mathlib.Core.Path.{◌≡◌}
use lib.ListN.{drop}
use Rattle.rows.specs.Strings.{same}
use Rattle.rows.proofs.strings.is_same_by.Given as goal

abbrev pub invariant-loop-i : goal.invariant-loop-i
invariant-loop-i g l = same l.a l.b ≡ same (drop l.i l.a) (drop l.i l.b)
