-- Every byte is put where the last one ended, and none is past the end, since all of them fit. Assumes nothing.
use mathlib.Core.Path.{◌≡◌, refl}
use mathlib.Core.List.{[], ◌∷◌}
use Prim.Native.Nat.{ℕ, ◌+◌}
use native.Mathlib.Omega.{arith}
use native.Mathlib.Nat.{add-zero}
use lib.ListN.{length}
use Rattle.writing.proofs.WritesLaws.{one_to}
use Rattle.writing.proofs.Putting.{put_begin, put_again, put_end}
use Rattle.writing.proofs.write.put_fitting.Goals as goal

pub loop-i-init : goal.loop-i-init
loop-i-init c = rw add-zero (put_begin refl _ _ _)

pub bounds-text-at : goal.bounds-text-at
bounds-text-at c = omega (arith, c.loop-i.invariant.writes.wrote.long)

pub loop-i-preserved : goal.loop-i-preserved
loop-i-preserved c = put_again (λ (x : ℕ). x ∷ []) (λ xs x. refl) c.loop-i.invariant c.loop-i-test.true
    (one_to c.loop-i.text (c.args.at + c.loop-i.i) _ _ (omega (arith, c.loop-i.invariant.writes.wrote.long)) (omega arith))

pub returns : goal.returns
returns c =
    let all : c.loop-i.i ≡ length c.args.s.now = omega (arith, c.loop-i.invariant.within, c.loop-i-test.false) in
    rw all at (put_end c.loop-i.invariant c.loop-i-test.false)
