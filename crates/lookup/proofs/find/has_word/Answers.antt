-- One of the rows has the word just if the search finds one. Assumes nothing.
use Rattle.lookup.proofs.Searching.{passes}
use Rattle.lookup.proofs.find.has_word.Goals as goal

pub returns : goal.returns
returns c = passes _ _ c.find_word.ensures c.is_some.ensures
