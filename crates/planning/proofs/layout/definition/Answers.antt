-- The row of the group is that of its number behind the head. Assumes nothing.
use Rattle.planning.proofs.layout.definition.Goals as goal

pub returns : goal.returns
returns c = rw (← c.group_row.ensures) c.word.ensures
