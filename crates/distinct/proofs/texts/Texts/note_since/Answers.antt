-- What is kept follows the rows. Assumes nothing.
use mathlib.Core.Path.{refl}
use Prim.Native.Nat.{ℕ}
use lib.ListN.{length-replicate}
use borrow.Author.Rules.{rules}
use Rattle.distinct.proofs.Kept.{kept_none}
use Rattle.distinct.proofs.texts.Texts.note_since.Goals as goal

pub loop-row-init : goal.loop-row-init
loop-row-init g c = (search rules, length-replicate {A = ℕ} g.row.ROWS 0, refl, kept_none _ _ _ c.requires.2 c.requires.3)
