-- A text is UTF-8 just if what is left of it is, behind any number of whole characters. Assumes nothing.
use mathlib.Core.Path.{◌≡◌}
use Prim.Native.Nat.{◌-◌}
use lib.ListN.{length, drop}
use Rattle.text.specs.Utf8.{is_utf8}
use Rattle.text.proofs.utf8.is_utf8.Given as goal

abbrev pub invariant-loop-at : goal.invariant-loop-at
invariant-loop-at l = is_utf8 l.s ≡ is_utf8 (drop l.at l.s)

abbrev pub decreases-loop-at : goal.decreases-loop-at
decreases-loop-at l = length l.s - l.at
