-- The rows passed have other words; the first that has this one ends the search. Assumes nothing.
use borrow.Author.Rules.{rules}
use Rattle.lookup.proofs.Searching.{seeking}
use Rattle.lookup.proofs.find.find_word.Goals as goal

pub loop-row-init : goal.loop-row-init
loop-row-init c = search (seeking, rules)

pub returns-then-cell-word : goal.returns-then-cell-word
returns-then-cell-word c = search (seeking, rules)

pub loop-row-preserved : goal.loop-row-preserved
loop-row-preserved c = search (seeking, rules)

pub returns : goal.returns
returns c = search (seeking, rules)
