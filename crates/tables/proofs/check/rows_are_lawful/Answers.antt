-- The tests table by table are the rules. Assumes nothing.
use mathlib.Core.Bool.{◌&&◌}
use Rattle.tables.proofs.ByTable.{stop_sizes, stop_schema, stop_document, go_values, sized_names, sized_selections}
use Rattle.tables.proofs.check.rows_are_lawful.Goals as goal

pub returns-then-not-sized : goal.returns-then-not-sized
returns-then-not-sized c = stop_sizes _ c.schema_is_sized.result c.document_is_sized.result c.values_are_sized.result c.schema_is_sized.ensures c.document_is_sized.ensures c.values_are_sized.ensures c.if-not-sized.true-raw

pub schema_is_lawful-requires : goal.schema_is_lawful-requires
schema_is_lawful-requires c = sized_names _ c.schema_is_sized.result
    (c.document_is_sized.result && c.values_are_sized.result)
    _ _ c.schema_is_sized.ensures c.if-not-sized.false-raw

pub returns-then-not-schema_is_lawful : goal.returns-then-not-schema_is_lawful
returns-then-not-schema_is_lawful c = stop_schema _ c.schema_is_lawful.result (rw c.row_count-literal_count.ensures at c.schema_is_lawful.ensures) c.if-not-schema_is_lawful.true-raw

pub document_is_lawful-requires : goal.document_is_lawful-requires
document_is_lawful-requires c = sized_selections _ c.schema_is_sized.result c.document_is_sized.result c.values_are_sized.result _ _ c.document_is_sized.ensures c.if-not-sized.false-raw

pub returns-then-not-document_is_lawful : goal.returns-then-not-document_is_lawful
returns-then-not-document_is_lawful c = stop_document _ c.document_is_lawful.result
    (rw (c.row_count-name_count.ensures, c.row_count-ref_count.ensures, c.row_count-literal_count.ensures) at c.document_is_lawful.ensures) c.if-not-document_is_lawful.true-raw

pub returns : goal.returns
returns c = go_values _ c.schema_is_sized.result c.document_is_sized.result c.values_are_sized.result c.schema_is_lawful.result c.document_is_lawful.result c.values_are_lawful.result
    c.schema_is_sized.ensures c.document_is_sized.ensures c.values_are_sized.ensures c.if-not-sized.false-raw
    (rw c.row_count-literal_count.ensures at c.schema_is_lawful.ensures) c.if-not-schema_is_lawful.false-raw
    (rw (c.row_count-name_count.ensures, c.row_count-ref_count.ensures, c.row_count-literal_count.ensures) at c.document_is_lawful.ensures) c.if-not-document_is_lawful.false-raw
    (rw c.row_count-name_count.ensures at c.values_are_lawful.ensures)
