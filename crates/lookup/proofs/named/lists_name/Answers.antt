-- The rows are those of the type that `type_at` reads, and a name is a word of its column. Assumes nothing.
use Rattle.graphql.specs.Lookup.{lists}
use native.Mathlib.Omega.{arith}
use Rattle.lookup.proofs.named.lists_name.Goals as goal

pub has_word-requires : goal.has_word-requires
has_word-requires c = (omega arith, omega arith, rw c.type_at-def.ensures c.requires)

pub returns : goal.returns
unfolding lists
returns c = rw (← c.type_at-def.ensures) c.has_word.ensures
