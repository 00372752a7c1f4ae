-- The digits are those of n / 10,000, and then the last four with their zeros. Assumes nothing.
use mathlib.Core.Path.{sym}
use Rattle.writing.proofs.WritesLaws.{«then», same}
use Rattle.tokens.proofs.DecimalLaws.{decimal_last_four}
use Rattle.tokens.proofs.json.put_middling.Goals as goal

pub returns : goal.returns
returns c = same (sym (decimal_last_four _ c.if-n-lt10000.false)) («then» c.put_short-next.ensures c.put_four_digits.ensures)
