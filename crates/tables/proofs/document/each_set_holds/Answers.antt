-- From the last set on: those passed hold, and one that does not ends the search. Assumes nothing.
use mathlib.Core.Path.{sym}
use Prim.Native.Nat.{◌-◌}
use native.Mathlib.Omega.{arith}
use Rattle.rows.proofs.Every.{all_broken, all_each}
use Rattle.tables.proofs.Skips.{skips_none, skips_smaller}
use Rattle.tables.proofs.document.each_set_holds.Goals as goal

pub loop-set-init : goal.loop-set-init
loop-set-init c = (omega (arith, c.row_count-set_count.ensures), skips_none _ _, λ k l m. absurd (omega (arith, c.row_count-set_count.ensures)))

pub set_holds-requires : goal.set_holds-requires
set_holds-requires c = record { skips = skips_smaller _ _ c.loop-set.set _ (omega arith) c.loop-set.invariant.1; count_value = (c.row_count-count.ensures, omega (arith, c.row_count-count.ensures, c.requires)) }

pub returns-then-not-set_holds : goal.returns-then-not-set_holds
returns-then-not-set_holds c = all_broken _ (c.loop-set.set - 1) _ c.set_holds.result (omega (arith, c.loop-set.invariant.0, c.loop-set-test.true)) c.set_holds.ensures.value c.if-not-set_holds.true-raw

pub returns : goal.returns
returns c = sym (all_each _ _ (λ k m. c.loop-set.invariant.2 k (omega (arith, c.loop-set-test.false)) m))
