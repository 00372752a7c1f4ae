-- The two halves of the check say which code the definition gives; the second rests on the first. Assumes nothing.
use Rattle.tables.proofs.Lawful.{code_rows, code_defaults, code_lawful}
use Rattle.tables.proofs.Facts.{searched}
use Rattle.tables.proofs.check.table_check.Goals as goal

pub returns-then-not-rows_are_lawful : goal.returns-then-not-rows_are_lawful
returns-then-not-rows_are_lawful c = code_rows _ c.rows_are_lawful.result c.rows_are_lawful.ensures c.if-not-rows_are_lawful.true-raw

pub defaults_are_closed-requires : goal.defaults_are_closed-requires
defaults_are_closed-requires c =
    let f = searched _ c.rows_are_lawful.result c.rows_are_lawful.ensures c.if-not-rows_are_lawful.false-raw in
    record { nested = f.0; defaulted = f.1 }

pub returns-then-not-defaults_are_closed : goal.returns-then-not-defaults_are_closed
returns-then-not-defaults_are_closed c = code_defaults _ c.rows_are_lawful.result c.defaults_are_closed.result c.rows_are_lawful.ensures c.if-not-rows_are_lawful.false-raw c.defaults_are_closed.ensures c.if-not-defaults_are_closed.true-raw

pub returns : goal.returns
returns c = code_lawful _ c.rows_are_lawful.result c.defaults_are_closed.result c.rows_are_lawful.ensures c.if-not-rows_are_lawful.false-raw c.defaults_are_closed.ensures c.if-not-defaults_are_closed.false-raw
