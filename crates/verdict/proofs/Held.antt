-- Tables whose words are those held are the tables held. Assumes nothing.
use Prim.Native.Nat.{ℕ}
use mathlib.Core.Path.{◌≡◌}
use mathlib.Core.List.{List}
use Rattle.rows.specs.declared.tables.Tables.{Tables as Lent}
use Rattle.table_file.specs.Held.{AreHeld}
use Rattle.tables.specs.Tables.{lent}
use Rattle.verdict.specs.Held.{held}

pub held_by : (bytes words sizes : List ℕ) (t : Lent) → AreHeld bytes words sizes t → lent t ≡ held bytes words sizes
unfolding held
held_by bytes words sizes t h =
    rw
    (h.pool, h.names, h.type_refs, h.types, h.members, h.fields, h.arguments, h.sets, h.selections, h.given, h.fragments, h.nodes, h.literals, h.variables, h.answers, h.root)
