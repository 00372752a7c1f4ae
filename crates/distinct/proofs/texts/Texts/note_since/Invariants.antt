-- What is kept follows the rows. Assumes nothing.
use mathlib.Core.Path.{◌≡◌}
use Prim.Native.Nat.{◌≤◌}
use lib.ListN.{length}
use Rattle.distinct.specs.Texts.{texts_of, Kept}
use Rattle.distinct.proofs.texts.Texts.note_since.Given as goal

abbrev pub invariant-loop-row : goal.invariant-loop-row
invariant-loop-row g l = (l.row ≤ l.count) × (length l.next ≡ g.row.ROWS) × (length l.since ≡ length l.initial.since)
    × Kept (texts_of l.self g.row.WIDTH g.row.COLUMN) l.row l.heads l.next l.hashes l.since
