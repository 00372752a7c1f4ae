-- The next note follows from the one before and from the last row that has the word. Assumes nothing.
use mathlib.Core.Path.{◌≡◌}
use Prim.Native.Nat.{◌≤◌}
use lib.ListN.{length, get_or}
use Rattle.rows.specs.Rows.{cell}
use Rattle.rules.specs.Rows.{other}
use Rattle.distinct.specs.Differ.{Lasts, Since}
use Rattle.distinct.proofs.columns.note_since.Given as goal

abbrev pub invariant-loop-row : goal.invariant-loop-row
invariant-loop-row l = (l.row ≤ l.rows)
    × (length l.since ≡ length l.initial.since)
    × Lasts (λ j. cell l.t l.width j l.column) 512 l.row l.lasts
    × Since (other l.t l.width l.column) l.row l.since
    × (l.from ≡ get_or l.since l.row 0)
