-- Each byte is what its callee ensures. Assumes nothing.
use mathlib.Core.Path.{◌∙◌}
use Rattle.distinct.specs.Hash.{word_at}
use Rattle.distinct.proofs.hash.word_at.Goals as goal

pub returns : goal.returns
unfolding word_at
returns c = (c.joined.ensures.0 ∙ (rw (c.byte_at-4.ensures, c.byte_at-3.ensures, c.byte_at-2.ensures, c.byte_at.ensures)), c.joined.ensures.1)
