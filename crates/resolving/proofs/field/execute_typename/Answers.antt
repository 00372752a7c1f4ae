-- A leaf, and then an entry. Assumes nothing.
use Rattle.resolving.proofs.Behind.{typename_settles}
use borrow.Author.Rules.{rules}
use Rattle.resolving.proofs.field.execute_typename.Goals as goal

pub returns : goal.returns
returns c = search (typename_settles, rules)
