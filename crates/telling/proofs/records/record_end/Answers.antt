-- The lesser of what the record has and what is left of the words. Assumes nothing.
use Rattle.telling.specs.Told.{record_end}
use Rattle.telling.proofs.Telling.{end-min}
use Rattle.telling.proofs.records.record_end.Goals as goal

pub returns-clause-value : goal.returns-clause-value
unfolding record_end
returns-clause-value c = rw (c.min.ensures, c.word_at.ensures) (end-min _ c.requires)
