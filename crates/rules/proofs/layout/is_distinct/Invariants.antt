-- Each row passed is new, and its word is marked; a row that is not new ends the search. Assumes nothing.
use mathlib.Core.Path.{◌≡◌}
use mathlib.Core.Bool.{true}
use Prim.Native.Nat.{◌≤◌}
use Rattle.rows.specs.Rows.{all}
use Rattle.rules.specs.Rows.{is_new}
use Rattle.rules.specs.Marks.{Marked, unmet}
use Rattle.rules.proofs.layout.is_distinct.Given as goal

abbrev pub invariant-loop-i : goal.invariant-loop-i
invariant-loop-i l = (l.i ≤ l.count) × (all (is_new l.t l.width l.column l.first) l.i ≡ true) × Marked 512 (unmet l.t l.width l.column l.first l.i) l.marks
