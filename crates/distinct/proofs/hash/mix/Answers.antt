-- The sum of both products fits. Assumes nothing.
use Rattle.distinct.specs.Hash.{mixed}
use borrow.Author.Rules.{rules}
use Rattle.distinct.proofs.hash.mix.Goals as goal

pub returns : goal.returns
unfolding mixed
returns c = search rules
