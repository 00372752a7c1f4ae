use borrow.Author.Rules.{rules}
use Rattle.rules.specs.Json.{keys_distinct}
use Rattle.rules.proofs.Ranges.{all_in_range}
use Rattle.rules.proofs.keys.keys_are_distinct.Goals as goal

pub returns : goal.returns
unfolding keys_distinct
returns c = all_in_range _ _ c.all.ensures.ran (λ i b h k. search rules)
