use Rattle.rules.specs.Document.{owned_set}
use Rattle.rules.proofs.document.owned_set.Goals as goal

pub returns : goal.returns
unfolding owned_set
returns c = rw (c.owned_of.ensures, c.cell-2.ensures, c.cell.ensures)
