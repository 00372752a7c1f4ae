-- One digit or two, told by the power of ten that the number is below. Assumes nothing.
use mathlib.Core.Path.{sym}
use Rattle.writing.proofs.WritesLaws.{cons, same}
use Rattle.tokens.proofs.DecimalLaws.{decimal_small, decimal_two}
use Rattle.tokens.proofs.json.put_two.Goals as goal

pub returns-then-n-lt10 : goal.returns-then-n-lt10
returns-then-n-lt10 c = same (sym (decimal_small _ c.if-n-lt10.true)) c.put.ensures

pub returns : goal.returns
returns c = same (sym (decimal_two _ c.if-n-lt10.false c.requires)) (cons c.put-ones.ensures c.put-2.ensures)
