-- What follows the int decides, where there is one. Assumes nothing.
use borrow.Author.Rules.{rules}
use Rattle.text.proofs.numbers.Parts.{float_found}
use Rattle.text.proofs.numbers.is_float.Goals as goal

pub returns : goal.returns
returns c =
    float_found c.args.s.now c.past_minus.result c.find_int.result c.is_some_and.result c.past_minus.ensures c.find_int.ensures
    c.is_some_and.ensures (λ past h. search rules)
