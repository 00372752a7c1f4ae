-- The test is the definition's. Assumes nothing.
use borrow.Author.Tests.{le-leb, lt-leb}
use Rattle.graphql.specs.Json.{sort_of}
use Rattle.values.proofs.sort.sort_of_negative.Goals as goal

pub returns-then-magnitude-le-INTS : goal.returns-then-magnitude-le-INTS
unfolding sort_of
returns-then-magnitude-le-INTS c = simp (le-leb _ _ c.if-magnitude-le-INTS.true)

pub returns : goal.returns
unfolding sort_of
returns c = simp (lt-leb _ _ c.if-magnitude-le-INTS.false)
