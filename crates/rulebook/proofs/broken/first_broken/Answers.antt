-- The rule on keys is obeyed where all keys differ at once; every other is looked at row by row. Assumes nothing.
use mathlib.Core.Path.{sym, ◌∙◌}
use borrow.Author.Rules.{rules}
use borrow.Author.Tests.{tests}
use Rattle.tables.proofs.Lawful.{keys_obeyed}
use Rattle.rulebook.proofs.First.{first_found}
use Rattle.rulebook.proofs.broken.first_broken.Goals as goal

pub returns-then-all_node_keys_differ : goal.returns-then-all_node_keys_differ
returns-then-all_node_keys_differ c =
    keys_obeyed _ _ (c.is_on_keys.ensures c.if-is_on_keys.true) (sym c.all_node_keys_differ.ensures ∙ c.if-all_node_keys_differ.true)

pub returns : goal.returns
returns c = first_found _ _ _ _ _ c.rule_rows.ensures c.find.ensures.ran (λ row b h k. search (rules, tests))
