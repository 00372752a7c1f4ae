-- A run that has one byte more is written with that byte behind it. Assumes nothing.
use mathlib.Core.Path.{refl}
use mathlib.Core.List.{[], ◌∷◌}
use Prim.Native.Nat.{ℕ}
use Rattle.writing.proofs.Putting.{put_begin, put_again, put_end}
use Rattle.writing.proofs.write.put_each.Goals as goal

pub loop-b-init : goal.loop-b-init
loop-b-init c = put_begin refl _ _ _

pub loop-b-preserved : goal.loop-b-preserved
loop-b-preserved c = put_again (λ (x : ℕ). x ∷ []) (λ xs x. refl) c.loop-b.invariant c.loop-b-test.true c.put-next.ensures

pub returns : goal.returns
returns c = put_end c.loop-b.invariant c.loop-b-test.false
