-- How many digits there are is told by the power of ten that the number is below. Assumes nothing.
use mathlib.Core.Path.{sym}
use native.Mathlib.Omega.{arith}
use Rattle.writing.proofs.WritesLaws.{«then», same}
use Rattle.tokens.proofs.DecimalLaws.{decimal_more, decimal_four}
use Rattle.tokens.proofs.json.put_short.Goals as goal

pub returns-then-n-lt1000 : goal.returns-then-n-lt1000
returns-then-n-lt1000 c = same (sym (decimal_more _ (omega arith))) («then» c.put_two-ones.ensures c.put.ensures)

pub returns : goal.returns
returns c = same (sym (decimal_four _ c.if-n-lt1000.false c.requires)) c.put_four_digits.ensures
