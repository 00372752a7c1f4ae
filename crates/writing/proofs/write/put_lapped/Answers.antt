-- The first half and the last reach into one another, and leave nothing between them. Assumes nothing.
use Rattle.writing.proofs.WritesLaws.{same, lapped}
use Rattle.writing.proofs.write.put_lapped.Goals as goal

pub returns : goal.returns
returns g c = lapped g.row.N _ c.requires.in_bounds.0 c.requires.in_bounds.1 c.requires.s_in_bounds (same c.bytes_at-first.ensures c.put_fitting.ensures)
    (same c.bytes_at-last.ensures c.put_fitting-2.ensures)
