-- It is not defined, too far down, or a value behind its key. Assumes nothing.
use Rattle.resolving.proofs.FieldSteps.{field_completable, field_resolvable, field_undefined, field_full, field_typename, field_defined}
use borrow.Author.Rules.{rules}
use Rattle.resolving.proofs.field.execute_field.Goals as goal

ruleset executing = (field_undefined, field_full, rules)

pub returns-then-own-eq-UNDEFINED : goal.returns-then-own-eq-UNDEFINED
returns-then-own-eq-UNDEFINED c = search executing

pub returns-then-path-ge-MOST_SEGMENTS : goal.returns-then-path-ge-MOST_SEGMENTS
returns-then-path-ge-MOST_SEGMENTS c = search executing

pub name_segment-last-requires : goal.name_segment-last-requires
name_segment-last-requires c = rw c.field_selection-field.ensures (c.requires.answerable.keyed _ c.requires.field_row.0)

pub execute_typename-requires : goal.execute_typename-requires
execute_typename-requires c = record { completable = field_completable c.requires.answerable; count_bound = c.if-path-ge-MOST_SEGMENTS.false }

pub returns-then-own-eq-TYPENAME : goal.returns-then-own-eq-TYPENAME
returns-then-own-eq-TYPENAME c = field_typename c.requires.field_row.1 c.if-path-ge-MOST_SEGMENTS.false c.field_selection-field.ensures c.selection_place-place.ensures c.name_segment-last.ensures c.put_key.ensures c.moved-open.ensures c.if-own-eq-TYPENAME.true c.execute_typename.ensures

pub answer_field-answer-requires : goal.answer_field-answer-requires
answer_field-answer-requires c = record { coercible = (c.requires.answerable.coercible, field_resolvable c.requires.answerable _ c.requires.field_row.0 c.field_selection-field.ensures c.field_at-def.ensures); count_bound = c.requires.count_bound.1 }

pub complete_answered-requires : goal.complete_answered-requires
complete_answered-requires c = record { completable = field_completable c.requires.answerable; count_bound = c.if-path-ge-MOST_SEGMENTS.false }

pub returns : goal.returns
returns c = let resolvable = field_resolvable c.requires.answerable _ c.requires.field_row.0 c.field_selection-field.ensures c.field_at-def.ensures in
    field_defined c.requires.field_row.1 c.if-path-ge-MOST_SEGMENTS.false c.field_selection-field.ensures c.selection_place-place.ensures c.name_segment-last.ensures c.put_key.ensures c.moved-open.ensures c.if-own-eq-UNDEFINED.false c.if-own-eq-TYPENAME.false c.field_at-def.ensures c.is_non_null.ensures resolvable.askable c.answer_field-answer.ensures c.complete_answered.ensures
