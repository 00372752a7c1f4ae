-- The keys passed have a field each; the first that has none ends the search. Assumes nothing.
use borrow.Author.Rules.{rules}
use Rattle.input_coercion.proofs.Keys.{keys}
use Rattle.input_coercion.proofs.check.has_unknown_key.Goals as goal

pub loop-i-init : goal.loop-i-init
loop-i-init c = search keys

pub returns-then-is_none : goal.returns-then-is_none
returns-then-is_none c = search (keys, rules)

pub loop-i-preserved : goal.loop-i-preserved
loop-i-preserved c = search (keys, rules)

pub returns : goal.returns
returns c = search (keys, rules)
