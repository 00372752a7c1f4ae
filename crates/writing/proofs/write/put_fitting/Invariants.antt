-- Every byte is put where the last one ended. Assumes nothing.
use mathlib.Core.List.{List}
use Prim.Native.Nat.{ℕ, ◌+◌}
use Rattle.writing.proofs.Putting.{Putting}
use Rattle.writing.proofs.write.put_fitting.Given as goal

abbrev pub invariant-loop-i : goal.invariant-loop-i
invariant-loop-i k = Putting (λ (l : List ℕ). l) k.initial.text k.at k.s k.text (k.at + k.i) k.i
