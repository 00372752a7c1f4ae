-- By the definition, and whether it has arguments. Assumes nothing.
use Rattle.planning.proofs.Expecting.{expecting}
use borrow.Author.Rules.{rules}
use Rattle.planning.proofs.groups.field_expected.Goals as goal

pub returns-then-own-lt-DEFINED : goal.returns-then-own-lt-DEFINED
returns-then-own-lt-DEFINED c = search (expecting, rules)

pub returns-then-arguments-gt0 : goal.returns-then-arguments-gt0
returns-then-arguments-gt0 c = search (expecting, rules)

pub returns : goal.returns
returns c = search (expecting, rules)
