-- Each test says which outcome it is. Assumes nothing.
use Rattle.running.proofs.Refusing.{refusal_tables, refusal_sizes, refusal_schema, refusal_none}
use Rattle.running.proofs.run.refusal.Goals as goal

pub returns-then-table_check-ne-LAWFUL : goal.returns-then-table_check-ne-LAWFUL
returns-then-table_check-ne-LAWFUL c = refusal_tables _ c.table_check.ensures _ _ _ c.if-table_check-ne-LAWFUL.true

pub returns-then-not-buffers_are_lawful-choices_are_lawful : goal.returns-then-not-buffers_are_lawful-choices_are_lawful
returns-then-not-buffers_are_lawful-choices_are_lawful c = refusal_sizes _ c.table_check.ensures _ _ _ c.if-table_check-ne-LAWFUL.false c.buffers_are_lawful.ensures
    c.choices_are_lawful.ensures c.if-not-buffers_are_lawful-choices_are_lawful.true-raw

pub returns-then-introspects : goal.returns-then-introspects
returns-then-introspects c = refusal_schema _ c.table_check.ensures _ _ _ c.if-table_check-ne-LAWFUL.false c.buffers_are_lawful.ensures
    c.choices_are_lawful.ensures c.if-not-buffers_are_lawful-choices_are_lawful.false-raw c.introspects.ensures c.if-introspects.true

pub returns : goal.returns
returns c = refusal_none _ c.table_check.ensures _ _ _ c.if-table_check-ne-LAWFUL.false c.buffers_are_lawful.ensures
    c.choices_are_lawful.ensures c.if-not-buffers_are_lawful-choices_are_lawful.false-raw c.introspects.ensures c.if-introspects.false
