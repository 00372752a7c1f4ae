-- To the other kinds no fragment applies. Assumes nothing.
use borrow.Author.Rules.{rules}
use Rattle.collecting.proofs.Leaves.{applying}
use Rattle.collecting.proofs.fragments.does_fragment_type_apply.Goals as goal

pub returns-in_default-kind : goal.returns-in_default-kind
returns-in_default-kind c = search (applying, rules)
