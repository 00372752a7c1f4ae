-- Either of frac and exp may be absent, but not both. Assumes nothing.
use Rattle.text.proofs.numbers.Parts.{none_left, some_left}
use Rattle.text.proofs.numbers.is_frac_or_exp.Goals as goal

pub returns-then-is_empty : goal.returns-then-is_empty
returns-then-is_empty c =
    none_left c.args.s c.unwrap_or-past.result c.unwrap_or-end.result c.find_frac.result c.find_exp.result c.find_frac.ensures c.unwrap_or-past.ensures
    c.find_exp.ensures c.unwrap_or-end.ensures c.is_empty.result c.is_empty.ensures c.if-is_empty.true _ c.is_empty-then-is_empty.ensures

pub returns-else-is_empty : goal.returns-else-is_empty
returns-else-is_empty c =
    some_left c.args.s c.unwrap_or-past.result c.unwrap_or-end.result c.find_frac.result c.find_exp.result c.find_frac.ensures c.unwrap_or-past.ensures
    c.find_exp.ensures c.unwrap_or-end.ensures c.is_empty.result c.is_empty.ensures c.if-is_empty.false
