-- The two tests are the definition's. Assumes nothing.
use borrow.Author.Tests.{lt-ltb, le-ltb}
use Rattle.graphql.specs.Json.{sort_of}
use Rattle.values.proofs.sort.sort_of_natural.Goals as goal

pub returns-then-n-lt-INTS : goal.returns-then-n-lt-INTS
unfolding sort_of
returns-then-n-lt-INTS c = simp (lt-ltb _ _ c.if-n-lt-INTS.true)

pub returns-then-n-lt-LONGS : goal.returns-then-n-lt-LONGS
unfolding sort_of
returns-then-n-lt-LONGS c = simp (le-ltb _ _ c.if-n-lt-INTS.false, lt-ltb _ _ c.if-n-lt-LONGS.true)

pub returns : goal.returns
unfolding sort_of
returns c = simp (le-ltb _ _ c.if-n-lt-INTS.false, le-ltb _ _ c.if-n-lt-LONGS.false)
