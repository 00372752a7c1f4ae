-- It is too far down, skipped, an error, or a value behind its comma. Assumes nothing.
use Rattle.resolving.proofs.ItemSteps.{item_completable, item_full, item_skip, item_fails, item_given}
use mathlib.Core.Path.{ap, ◌∙◌}
use borrow.Author.Rules.{rules}
use Rattle.std.specs.Prelude.{Ok}
use Rattle.resolving.proofs.field.complete_item.Goals as goal

ruleset itemizing = (item_full, item_skip, item_fails, rules)

pub returns-then-path-ge-MOST_SEGMENTS : goal.returns-then-path-ge-MOST_SEGMENTS
returns-then-path-ge-MOST_SEGMENTS c = search itemizing

pub resolve_row-requires : goal.resolve_row-requires
resolve_row-requires c = record { askable = c.requires.itemizable.askable; leads = c.requires.itemizable.leads _ }

pub complete_value-requires : goal.complete_value-requires
complete_value-requires c = record { completable = item_completable c.requires.itemizable; count_bound = c.if-path-ge-MOST_SEGMENTS.false }

pub returns-in_default : goal.returns-in_default
returns-in_default c = item_skip c.index_segment-last.result c.if-path-ge-MOST_SEGMENTS.false c.index_segment-last.ensures c.resolve_row.ensures c.requires.itemizable
    (c.in-Ok.is ∙ ap Ok c.in_default.is) c.left_out.ensures

pub returns-in-Err : goal.returns-in-Err
returns-in-Err c = search itemizing

pub returns : goal.returns
returns c = item_given c.index_segment-last.result c.if-path-ge-MOST_SEGMENTS.false c.index_segment-last.ensures c.resolve_row.ensures c.requires.itemizable
    (c.in-Ok.is ∙ ap Ok c.in-Some.is) c.is_non_null.ensures c.put.ensures.wrote c.moved-open.ensures c.complete_value.ensures
