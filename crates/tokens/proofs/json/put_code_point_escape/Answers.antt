-- Of the six characters four are always the same, and two are digits. Assumes nothing.
use Rattle.writing.proofs.WritesLaws.{cons, «then»}
use Rattle.tokens.proofs.json.put_code_point_escape.Goals as goal

pub returns : goal.returns
returns c = rw (← c.hex_digit-high.ensures, ← c.hex_digit-low.ensures)
    («then» c.put_four-digits.ensures (cons c.put-last.ensures c.put.ensures))
