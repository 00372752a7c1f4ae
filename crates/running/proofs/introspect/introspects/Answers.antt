-- The rows passed do not ask for the schema; the first that does ends the search. Assumes nothing.
use borrow.Author.Rules.{rules}
use Rattle.running.proofs.Asking.{asking_schema}
use Rattle.running.proofs.introspect.introspects.Goals as goal

pub loop-row-init : goal.loop-row-init
loop-row-init c = search (asking_schema, rules)

pub returns-then-asks_schema : goal.returns-then-asks_schema
returns-then-asks_schema c = search (asking_schema, rules)

pub loop-row-preserved : goal.loop-row-preserved
loop-row-preserved c = search (asking_schema, rules)

pub returns : goal.returns
returns c = search (asking_schema, rules)
