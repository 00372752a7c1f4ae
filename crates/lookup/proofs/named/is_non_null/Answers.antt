-- Both kinds of reference say it. Assumes nothing.
use mathlib.Core.Logic.{⊎_elim}
use Rattle.graphql.specs.Lookup.{non_null, non_null_ref}
use Rattle.lookup.proofs.named.is_non_null.Goals as goal

pub returns-in-Named : goal.returns-in-Named
unfolding non_null non_null_ref
returns-in-Named c = ⊎_elim (λ p. rw (← c.type_ref_at.ensures, p.1)) (λ p. rw (← c.type_ref_at.ensures, p.1)) c.in-Named.is

pub returns-in-Unknown : goal.returns-in-Unknown
unfolding non_null non_null_ref
returns-in-Unknown c = rw (← c.type_ref_at.ensures, c.in-Unknown.is)
