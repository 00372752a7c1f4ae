-- Four digits and then four are eight. Assumes nothing.
use Rattle.writing.proofs.WritesLaws.{«then»}
use Rattle.tokens.proofs.json.put_eight_digits.Goals as goal

pub returns : goal.returns
returns c = «then» c.put_four_digits-next.ensures c.put_four_digits.ensures
