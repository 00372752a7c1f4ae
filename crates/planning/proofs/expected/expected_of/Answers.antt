-- By whether the type is there, and then by its kind. Assumes nothing.
use Rattle.planning.proofs.Expecting.{naming}
use borrow.Author.Rules.{rules}
use Rattle.planning.proofs.expected.expected_of.Goals as goal

pub returns-in_default : goal.returns-in_default
returns-in_default c = search (naming, rules)

pub with-requires-in-Enum : goal.with-requires-in-Enum
with-requires-in-Enum c = search (naming, rules)

pub with-requires-in-Object : goal.with-requires-in-Object
with-requires-in-Object c = search (naming, rules)

pub returns-in-Scalar : goal.returns-in-Scalar
returns-in-Scalar c = search (naming, rules)

pub returns-in-Enum : goal.returns-in-Enum
returns-in-Enum c = search (naming, rules)

pub returns-in-Object : goal.returns-in-Object
returns-in-Object c = search (naming, rules)

pub returns-in_default-kind : goal.returns-in_default-kind
returns-in_default-kind c = search (naming, rules)
