-- By what the type reference is. Assumes nothing.
use Rattle.planning.proofs.Expecting.{referring}
use borrow.Author.Rules.{rules}
use Rattle.planning.proofs.expected.expected_at.Goals as goal

pub with-requires : goal.with-requires
with-requires c = search (referring, rules)

pub expected_of-requires : goal.expected_of-requires
expected_of-requires c = search (referring, rules)

pub returns-in-ListOf : goal.returns-in-ListOf
returns-in-ListOf c = search (referring, rules)

pub returns-in-Named : goal.returns-in-Named
returns-in-Named c = search (referring, rules)

pub returns-in-Unknown : goal.returns-in-Unknown
returns-in-Unknown c = search (referring, rules)
