use borrow.Author.Rules.{rules}
use Rattle.rules.specs.Document.{owned_nowhere}
use Rattle.rules.proofs.Ranges.{all_in_range}
use Rattle.rules.proofs.document.is_owned_nowhere.Goals as goal

pub returns : goal.returns
unfolding owned_nowhere
returns c = all_in_range _ _ c.all.ensures.ran (λ j b h k. search rules)
