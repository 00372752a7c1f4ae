-- Texts with different hashes differ. Assumes nothing.
use native.Mathlib.Omega.{arith}
use borrow.Author.Tests.{ne_eqb}
use Rattle.distinct.proofs.HashLaws.{hashed_other}
use Rattle.distinct.proofs.texts.Texts.is_other_by_hash.Goals as goal

pub returns-then-hashes-one : goal.returns-then-hashes-one
returns-then-hashes-one g c = rw (ne_eqb _ _ c.if-hashes-one.true)
    (hashed_other _ _ _ _ _ c.requires.hashed (omega arith) (omega arith) c.if-hashes-one.true)
