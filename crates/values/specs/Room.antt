-- How many containers a value opens, and in how much room it is there: what a node or a literal comes to in one room, by its value in any other.
use Rattle.std.specs.Prelude.{◌≡◌, List, [], ℕ, ◌≤◌, ◌<◌, leb}
use Rattle.rows.specs.Json.{variable_at}
use Rattle.codes.specs.Outcome.{too_far, most_open}
use Rattle.graphql.specs.Run.{Log, Choices, M, stop, done, pure, halt, when}
use Rattle.graphql.specs.Json.{Json, containers}
use Rattle.graphql.specs.Values.{node_value, variable_value, part_by_part}

-- a value of this size is there where there is room for it, and too far where there is not
pub record Within {A : Type 0} (room size : ℕ) (v : A) (m : M A) : Type 0 where
  pub fits : size ≤ room → (c : Choices) → m c ≡ done v [] c
  pub full : room < size → (c : Choices) → m c ≡ stop too_far []

-- a node that has a value in some room
abbrev pub NodeWithin : Type 0
NodeWithin =
    (pool nodes : List ℕ) (big room row : ℕ) (j : Json) (log : Log) (c c' : Choices) → node_value pool nodes big row c ≡ done j log c'
    → Within room (containers j) j (node_value pool nodes room row)

-- So the value of a variable that is echoed, whose containers then count, is that of its node in the room that a leaf has.
abbrev pub VariableEchoed : Type 0
VariableEchoed =
    (pool nodes variables : List ℕ) (v : ℕ) (j : Json) (log : Log) (c c' : Choices) → variable_value pool nodes variables v c ≡ done j log c'
    → (d : Choices) → node_value pool nodes most_open (variable_at variables v).node d ≡ when (leb (containers j) most_open) (pure j) (halt too_far) d

-- a literal likewise
abbrev pub LiteralWithin : Type 0
LiteralWithin =
    (pool names literals : List ℕ) (big room row : ℕ) (j : Json) (log : Log) (c c' : Choices)
    → part_by_part pool names literals big row c ≡ done j log c' → Within room (containers j) j (part_by_part pool names literals room row)

-- the value of a literal opens no more containers than there was room for
abbrev pub LiteralFits : Type 0
LiteralFits =
    (pool names literals : List ℕ) (room row : ℕ) (j : Json) (log : Log) (c c' : Choices)
    → part_by_part pool names literals room row c ≡ done j log c' → containers j ≤ room
