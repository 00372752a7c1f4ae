-- The rows passed have other words; the first that has this one ends the search. Assumes nothing.
use Rattle.lookup.proofs.Searching.{Left}
use Rattle.lookup.proofs.find.find_word.Given as goal

abbrev pub invariant-loop-row : goal.invariant-loop-row
invariant-loop-row l = Left l.t l.width l.column l.word l.fn.rows l.row
