-- Texts are the same just if what is left of them is, behind parts that are; and where the last bytes are the same too, all are.
-- Assumes nothing.
use Prim.Native.Nat.{◌+◌}
use native.Mathlib.Omega.{arith}
use Rattle.rows.proofs.Same.{block_differs, block_same, block_last}
use Rattle.rows.proofs.strings.is_same_by.Goals as goal
use Rattle.rows.proofs.strings.is_same_by.Goals.{else-loop-i-test, then-loop-i-test+else-not-is_same_block+else-i-step-last}

pub returns-then-not-is_same_block : goal.returns-then-not-is_same_block
returns-then-not-is_same_block g c = search block_differs

pub loop-i-preserved : goal.loop-i-preserved
loop-i-preserved g c = search block_same

pub returns : goal.returns
returns g c =
    elim c.loop-i-test.branch [
      | else-loop-i-test w ↦ block_last _ _ _ c.loop-i.invariant _ _ (omega arith) c.is_same_block-2.ensures
      | then-loop-i-test+else-not-is_same_block+else-i-step-last w ↦
          block_last _ _ (c.loop-i.i + g.row.SIZE) (search block_same) _ _ (omega arith) c.is_same_block-2.ensures
    ]
