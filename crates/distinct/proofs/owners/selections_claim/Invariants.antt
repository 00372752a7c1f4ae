-- Each row passed owns its set alone, and the marks follow; one that does not ends the search. Assumes nothing.
use mathlib.Core.Path.{◌≡◌}
use mathlib.Core.Bool.{true}
use Prim.Native.Nat.{◌≤◌}
use Rattle.rows.specs.Rows.{all}
use Rattle.rules.specs.Document.{selection_owns_alone}
use Rattle.rules.specs.Marks.{Marked}
use Rattle.distinct.specs.Marks.{free_of_selections}
use Rattle.distinct.proofs.owners.selections_claim.Given as goal

abbrev pub invariant-loop-row : goal.invariant-loop-row
invariant-loop-row l = (l.row ≤ l.rows)
    × (all (selection_owns_alone l.selections) l.row ≡ true)
    × Marked 4096 (free_of_selections l.selections l.row) l.marks
