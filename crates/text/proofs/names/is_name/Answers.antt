-- A text is a name just if its first octet is NameStart and all others NameContinue. Assumes nothing.
use Rattle.std.proofs.Common.{rules, tests}
use Rattle.std.proofs.lemmas.Iterator.{YieldsList-from_slice}
use Rattle.std.proofs.lemmas.Iterator.Search.{all_from_yields_List}
use Rattle.text.specs.Names.{NameContinue}
use Rattle.text.proofs.names.Spelled.{name_empty, name_refused, name_begun}
use Rattle.text.proofs.names.is_name.Goals as goal

pub returns-in-empty : goal.returns-in-empty
returns-in-empty c = name_empty c.args.s.now c.in-empty.len_below

pub returns-then-is_name_start : goal.returns-then-is_name_start
returns-then-is_name_start c =
    name_begun c.args.s.now c.is_name_start.result c.in-len1-up.len_at_least c.is_name_start.ensures c.all.result c.if-is_name_start.true
    (all_from_yields_List NameContinue _ _ _ c.all.ensures.ran (YieldsList-from_slice _ c.iter.ensures.rest) (λ x b q k. search (rules, tests)))

pub returns-else-is_name_start : goal.returns-else-is_name_start
returns-else-is_name_start c = name_refused c.args.s.now c.is_name_start.result c.in-len1-up.len_at_least c.is_name_start.ensures c.if-is_name_start.false
