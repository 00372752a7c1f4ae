use borrow.Author.Rules.{rules}
use Rattle.rules.proofs.Ranges.{all_in_range}
use Rattle.tables.proofs.document.each_fragment_holds.Goals as goal

pub returns : goal.returns
returns c = rw (← c.row_count-count.ensures) (all_in_range _ _ c.all.ensures.ran (λ row b h k. search rules))
