-- The runs are right, so a default is in one just if it is closed. Assumes nothing.
use Rattle.tables.proofs.Closed.{mark_none, defaults_closed_lem}
use Rattle.tables.proofs.defaults.defaults_are_closed.Goals as goal

pub mark_all-requires : goal.mark_all-requires
mark_all-requires c = record { marked = mark_none _ c.requires.nested; nested = c.requires.nested }

pub returns : goal.returns
returns c = rw (c.defaults_are_unmarked.ensures, c.defaults_are_unmarked-2.ensures)
    (defaults_closed_lem _ _ _ _ c.requires.defaulted c.mark_all.ensures)
