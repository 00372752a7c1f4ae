use borrow.Author.Rules.{rules}
use Rattle.rules.specs.Rows.{is_new}
use Rattle.rules.proofs.Ranges.{all_in_range}
use Rattle.rules.proofs.layout.is_new.Goals as goal

pub returns : goal.returns
unfolding is_new
returns c = all_in_range _ _ c.all.ensures.ran (λ j b h k. search rules)
