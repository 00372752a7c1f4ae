-- The groups passed have other keys. Assumes nothing.
use Rattle.planning.proofs.Words.{seeking}
use borrow.Author.Rules.{rules}
use Rattle.planning.proofs.groups.group_with.Goals as goal

pub loop-i-init : goal.loop-i-init
loop-i-init c = search (seeking, rules)

pub returns-then-word-key : goal.returns-then-word-key
returns-then-word-key c = search (seeking, rules)

pub loop-i-preserved : goal.loop-i-preserved
loop-i-preserved c = search (seeking, rules)

pub returns : goal.returns
returns c = search (seeking, rules)
