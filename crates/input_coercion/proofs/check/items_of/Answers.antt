-- A list literal has its items; another is its own. Assumes nothing.
use borrow.Author.Rules.{rules}
use Rattle.input_coercion.proofs.Leaves.{items_listed, items_wrapped}
use Rattle.input_coercion.proofs.check.items_of.Goals as goal

pub returns-in-Listed : goal.returns-in-Listed
returns-in-Listed c = search (items_listed, rules)

pub returns-in_default : goal.returns-in_default
returns-in_default c = search (items_wrapped, rules)
