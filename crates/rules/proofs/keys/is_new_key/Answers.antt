use borrow.Author.Rules.{rules}
use Rattle.rules.specs.Json.{key_new}
use Rattle.rules.proofs.Ranges.{all_in_range}
use Rattle.rules.proofs.keys.is_new_key.Goals as goal

pub returns : goal.returns
unfolding key_new
returns c = all_in_range _ _ c.all.ensures.ran (λ j b h k. search rules)
