use borrow.Author.Rules.{rules}
use Rattle.rules.specs.Document.{children_larger}
use Rattle.rules.proofs.Ranges.{all_in_range}
use Rattle.rules.proofs.document.children_are_larger.Goals as goal

pub returns : goal.returns
unfolding children_larger
returns c = all_in_range _ _ c.all.ensures.ran (λ i b h k. search rules)
