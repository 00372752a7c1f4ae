-- One byte more is plain or not, whatever is behind it. Assumes nothing.
use mathlib.Core.Path.{◌≡◌}
use lib.ListN.{take}
use Rattle.tokens.specs.Escape.{all_plain}
use Rattle.tokens.proofs.json.are_plain.Given as goal

abbrev pub invariant-loop-b : goal.invariant-loop-b
invariant-loop-b l = l.plain ≡ all_plain (take l.b-index l.s)
