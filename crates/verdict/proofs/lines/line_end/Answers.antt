-- The line ends at the first line feed of what is left, or with it. Assumes nothing.
use Rattle.verdict.proofs.LineEnds.{line_ends, last_line_ends}
use mathlib.Core.Path.{sym}
use Rattle.verdict.proofs.lines.line_end.Goals as goal

pub returns-in-Some : goal.returns-in-Some
returns-in-Some c = line_ends _ _ _ c.requires (sym (rw c.in-Some.is at c.line_feed.ensures))

pub returns-in-None : goal.returns-in-None
returns-in-None c = last_line_ends _ _ c.requires (sym (rw c.in-None.is at c.line_feed.ensures))
