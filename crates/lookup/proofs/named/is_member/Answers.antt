-- The library's search goes through the same rows. Assumes nothing.
use borrow.Author.Rules.{rules}
use borrow.Author.Tests.{tests}
use Rattle.lookup.specs.Found.{is_named}
use Rattle.lookup.proofs.Searching.{any_in_range}
use Rattle.lookup.proofs.named.is_member.Goals as goal

pub returns : goal.returns
returns c =
    any_in_range (is_named c.args.tables.now.pool.now c.args.tables.now.names.now c.args.tables.now.members.now c.args.string.now) c.args.rows _
    c.any.ensures.ran (λ row b h k. search (rules, tests))
