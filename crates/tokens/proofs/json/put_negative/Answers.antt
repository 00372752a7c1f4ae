-- A minus sign and then the digits are one text. Assumes nothing.
use Rattle.writing.proofs.WritesLaws.{cons}
use Rattle.tokens.proofs.json.put_negative.Goals as goal

pub returns : goal.returns
returns c = cons c.put-next.ensures c.put_natural.ensures
