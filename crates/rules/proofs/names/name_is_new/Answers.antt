use borrow.Author.Rules.{rules}
use Rattle.rules.specs.Names.{name_new, other_name}
use Rattle.rules.proofs.Ranges.{all_in_range}
use Rattle.rules.proofs.names.name_is_new.Goals as goal

pub returns : goal.returns
unfolding name_new
returns c = all_in_range (other_name c.args.pool.now c.args.names.now c.args.row) _ c.all.ensures.ran (λ j b h k. search rules)
