-- A run that has one byte more is written with that byte behind it. Assumes nothing.
use mathlib.Core.List.{List}
use Prim.Native.Nat.{ℕ}
use Rattle.writing.proofs.Putting.{Putting}
use Rattle.writing.proofs.write.put_each.Given as goal

abbrev pub invariant-loop-b : goal.invariant-loop-b
invariant-loop-b k = Putting (λ (l : List ℕ). l) k.initial.text k.at k.s k.text k.next k.b-index
