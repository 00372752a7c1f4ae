-- A quotation mark, the bytes and a quotation mark, one behind the other, are one text. Assumes nothing.
use Rattle.tokens.specs.Escape.{quoted}
use Rattle.writing.proofs.WritesLaws.{cons, «then»}
use Rattle.tokens.proofs.json.put_string.Goals as goal

pub returns : goal.returns
unfolding quoted
returns c = cons c.put-inside.ensures («then» c.put_escaped_all-end.ensures c.put.ensures)
