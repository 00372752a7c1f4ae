-- The digits are those of n / 100,000,000, and then the last eight with their zeros. Assumes nothing.
use mathlib.Core.Path.{sym}
use Rattle.writing.proofs.WritesLaws.{«then», same}
use Rattle.tokens.proofs.DecimalLaws.{decimal_last_eight}
use Rattle.tokens.proofs.json.put_long.Goals as goal

pub returns-then-high-lt100000000 : goal.returns-then-high-lt100000000
returns-then-high-lt100000000 c = same (sym (decimal_last_eight _ c.requires))
    («then» c.put_middling-next.ensures c.put_eight_digits.ensures)

pub returns : goal.returns
returns c = same (sym (decimal_last_eight _ c.requires))
    («then»
    (same (sym (decimal_last_eight _ c.if-high-lt100000000.false)) («then» c.put_short-first.ensures c.put_eight_digits-next.ensures))
    c.put_eight_digits-2.ensures)
