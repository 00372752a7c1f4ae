-- Nodes of which no keys need be compared.
use Rattle.std.specs.Prelude.{Bool, List, ℕ, ltb}
use Rattle.rows.specs.Json.{node_at}
use Rattle.rules.specs.Json.{object_rows}

-- no object of two or more
abbrev pub is_plain : List ℕ → ℕ → Bool
is_plain nodes row = ltb (object_rows (node_at nodes row)).count 2
