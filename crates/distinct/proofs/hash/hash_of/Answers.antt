-- The bytes passed are in the hash, eight by eight; the last eight follow. Assumes nothing.
use mathlib.Core.Path.{◌≡◌, refl}
use Prim.Native.Nat.{◌*◌, ◌/◌}
use native.Mathlib.Omega.{arith}
use lib.ListN.{length}
use Rattle.distinct.specs.Hash.{hash_steps, hash_of}
use Rattle.distinct.proofs.HashLaws.{hash_more}
use borrow.Author.Rules.{rules}
use Rattle.distinct.proofs.hash.hash_of.Goals as goal

pub loop-step-init : goal.loop-step-init
unfolding hash_steps
loop-step-init c = (refl, search rules)

pub loop-step-preserved : goal.loop-step-preserved
loop-step-preserved c = (
  rw (
    hash_more _ c.loop-step.step (8 * c.loop-step.step) refl,
    ← c.loop-step.invariant.0,
    ← c.whole_word_at.ensures.0,
    ← c.whole_word_at-in-loop-step.ensures.0,
  )
      c.mix-hash.ensures.0,
  search rules,
)

pub returns : goal.returns
unfolding hash_of
returns c =
    let e : length c.args.bytes.now / 8 ≡ c.loop-step.step = omega arith in
    rw (
      e,
      ← c.loop-step.invariant.0,
      ← c.saturating_sub.ensures,
      ← c.word_at-one.ensures.0,
      ← c.saturating_sub-2.ensures,
      ← c.word_at-two.ensures.0,
      ← c.mix.ensures.0,
    )
