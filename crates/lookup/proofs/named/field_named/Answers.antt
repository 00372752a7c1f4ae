-- The rows are those of the type that `type_at` reads, and a name is a word of its column. Assumes nothing.
use Rattle.rows.specs.Schema.{field_at}
use Rattle.graphql.specs.Lookup.{field_named}
use native.Mathlib.Omega.{arith}
use Rattle.lookup.proofs.named.field_named.Goals as goal

pub find_word-requires : goal.find_word-requires
find_word-requires c = (omega arith, omega arith, rw c.type_at-def.ensures c.requires)

pub returns : goal.returns
unfolding field_named field_at
returns c = rw (← c.type_at-def.ensures) c.find_word.ensures
