-- The groups of the fields passed stand. Assumes nothing.
use Prim.Native.Nat.{◌≤◌}
use Rattle.planning.specs.Plans.{Grouping}
use Rattle.planning.proofs.groups.put_groups.Given as goal

abbrev pub invariant-loop-i : goal.invariant-loop-i
invariant-loop-i l = Grouping l.tables.type_refs.now l.tables.types.now l.tables.fields.now l.tables.selections.now l.list l.object l.first l.initial.plans l.plans l.owners l.groups l.i × (l.i ≤ l.count)
