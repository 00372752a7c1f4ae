-- The rows are those of the type that `type_at` reads. Assumes nothing.
use Rattle.graphql.specs.Lookup.{has_value}
use Rattle.lookup.proofs.named.has_value.Goals as goal

pub is_member-requires : goal.is_member-requires
is_member-requires c = rw c.type_at-def.ensures c.requires

pub returns : goal.returns
unfolding has_value
returns c = rw (← c.type_at-def.ensures) c.is_member.ensures
