-- A string is written part by part: what a part is escaped to does not depend on the others. Assumes nothing.
use Prim.Native.Nat.{◌*◌}
use Rattle.tokens.specs.Escape.{escaped_all}
use Rattle.writing.proofs.Putting.{Putting}
use Rattle.tokens.proofs.json.put_escaped_all.Given as goal

abbrev pub invariant-loop-block : goal.invariant-loop-block
invariant-loop-block l = Putting escaped_all l.initial.text l.at l.s l.text l.next (l.block-index * 16)
