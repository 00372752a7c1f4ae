-- As long as the end is 0, the nodes passed are plain. Assumes nothing.
use mathlib.Core.Path.{◌≡◌}
use mathlib.Core.Bool.{true}
use Prim.Native.Nat.{◌≤◌}
use Rattle.rows.specs.Rows.{all}
use Rattle.distinct.specs.Plain.{is_plain}
use Rattle.distinct.proofs.keys.end_of_children.Given as goal

abbrev pub invariant-loop-row : goal.invariant-loop-row
invariant-loop-row l = (l.row ≤ l.rows) × (l.end ≤ 4096) × (l.end ≡ 0 → all (is_plain l.nodes) l.row ≡ true)
