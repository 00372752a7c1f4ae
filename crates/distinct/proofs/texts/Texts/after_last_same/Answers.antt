-- What is passed on the way back differs from the row; a row that is the same ends it. Assumes nothing.
use Prim.Native.Nat.{◌-◌}
use native.Mathlib.Omega.{arith}
use Rattle.rows.proofs.Every.{falsified, verified}
use Rattle.distinct.proofs.Chains.{cursor_step, cursor_found, cursor_end}
use Rattle.distinct.proofs.HashLaws.{chain_other}
use Rattle.distinct.proofs.texts.Texts.after_last_same.Goals as goal

pub returns-then-not-is_other_by_hash : goal.returns-then-not-is_other_by_hash
returns-then-not-is_other_by_hash g c = cursor_found _ _ (chain_other _) _ _ _ c.loop-cursor.invariant c.loop-cursor-test.true
    (falsified c.is_other_by_hash.result _ c.is_other_by_hash.ensures c.if-not-is_other_by_hash.true-raw)

pub overflow_cast-cursor : goal.overflow_cast-cursor
overflow_cast-cursor g c = omega (arith, c.type_inv.next (c.loop-cursor.cursor - 1))

pub loop-cursor-smaller : goal.loop-cursor-smaller
loop-cursor-smaller g c = omega (arith, (c.requires.links.linked (c.loop-cursor.cursor - 1) (omega arith)).high)

pub loop-cursor-preserved : goal.loop-cursor-preserved
loop-cursor-preserved g c = cursor_step _ _ (chain_other _) _ _ _ c.loop-cursor.invariant (omega arith)
    (verified c.is_other_by_hash.result _ c.is_other_by_hash.ensures c.if-not-is_other_by_hash.false-raw)
    (c.requires.links.linked (c.loop-cursor.cursor - 1) (omega arith))

pub returns : goal.returns
returns g c = cursor_end _ _ (chain_other _) _ _ _ c.loop-cursor.invariant c.loop-cursor-test.false (omega arith)
