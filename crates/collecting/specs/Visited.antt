-- The fragments visited, as the bits of a number: what it means that a row is among them.
use Rattle.std.specs.Prelude.{Bool, ℕ, zero, suc, ◌/◌, ◌%◌, eqb}

-- the bit of this row is set
unfoldable pub is_marked : ℕ → ℕ → Bool
is_marked zero bits = eqb (bits % 2) 1
is_marked (suc row) bits = is_marked row (bits / 2)
