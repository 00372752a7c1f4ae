-- By the type reference. Assumes nothing.
use Rattle.resolving.proofs.Opened.{list_named, list_unknown, list_opens}
use borrow.Author.Rules.{rules}
use Rattle.resolving.proofs.field.open_list.Goals as goal

ruleset opening = (list_named, list_unknown, list_opens, rules)

pub returns-in-Named : goal.returns-in-Named
returns-in-Named c = search opening

pub returns-in-Unknown : goal.returns-in-Unknown
returns-in-Unknown c = search opening

pub returns-in-ListOf : goal.returns-in-ListOf
returns-in-ListOf c = search opening
