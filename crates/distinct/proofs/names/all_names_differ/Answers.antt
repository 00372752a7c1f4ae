-- The last note says of all rows whether their names differ. Assumes nothing.
use mathlib.Core.Path.{refl, ◌∙◌}
use Rattle.rows.specs.Names.{name_at}
use Rattle.rules.specs.Names.{other_name, name_new}
use Rattle.distinct.specs.Texts.{text_at}
use Rattle.distinct.proofs.Differ.{since_all, differ_first}
use Rattle.distinct.proofs.names.all_names_differ.Goals as goal

pub returns : goal.returns
unfolding name_new name_at text_at
returns c = rw (← c.row_count-rows.ensures) (since_all _ _ _ (rw c.new-texts.ensures at c.note_since.ensures.1) ∙ differ_first (other_name _ _) (name_new _ _) _ (λ row. refl))
