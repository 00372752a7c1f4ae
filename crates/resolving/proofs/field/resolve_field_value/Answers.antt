-- No row, or the answer in a row. Assumes nothing.
use Rattle.resolving.proofs.Answers.{field_unanswered, field_resolved}
use borrow.Author.Rules.{rules}
use Rattle.resolving.proofs.field.resolve_field_value.Goals as goal

ruleset resolving = (field_unanswered, field_resolved, rules)

pub resolve_row-requires : goal.resolve_row-requires
resolve_row-requires c = record { askable = c.requires.askable.0; leads = c.requires.askable.1 _ }

pub returns-in_default : goal.returns-in_default
returns-in_default c = search resolving

pub returns : goal.returns
returns c = search resolving
