-- The values of the parts of a container: those of one room less. Assumes nothing.
use mathlib.Core.Path.{◌≡◌, refl}
use mathlib.Core.List.{List}
use Prim.Native.Nat.{ℕ, zero, suc}
use Rattle.rows.specs.Json.{node_at, literal_at}
use Rattle.codes.specs.Outcome.{too_far}
use Rattle.graphql.specs.Run.{M, halt}
use Rattle.graphql.specs.Json.{Json}
use Rattle.graphql.specs.Values.{value_of, node_value, parts_of, part_by_part}

unfoldable pub insides : (value : ℕ → ℕ → M Json) (room : ℕ) → ℕ → M Json
insides value zero part = halt too_far
insides value (suc room) part = value room part

-- a node's value, and a literal's, is made of them
pub node_is : (pool nodes : List ℕ) (room row : ℕ)
    → node_value pool nodes room row ≡ value_of pool nodes room (insides (node_value pool nodes) room) (node_at nodes row)
unfolding node_value insides
node_is pool nodes zero row = refl
node_is pool nodes (suc room) row = refl

pub literal_is : (pool names literals : List ℕ) (room row : ℕ)
    → part_by_part pool names literals room row
    ≡ parts_of pool names literals room (insides (part_by_part pool names literals) room) (literal_at literals row)
unfolding part_by_part insides
literal_is pool names literals zero row = refl
literal_is pool names literals (suc room) row = refl
