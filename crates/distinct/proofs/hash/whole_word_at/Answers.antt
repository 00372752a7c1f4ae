-- Each byte is there. Assumes nothing.
use Rattle.distinct.specs.Hash.{word_at}
use Rattle.distinct.proofs.hash.whole_word_at.Goals as goal

pub returns : goal.returns
unfolding word_at
returns c = c.joined.ensures
