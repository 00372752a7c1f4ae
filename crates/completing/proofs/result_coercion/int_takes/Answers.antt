-- Int, long, and every other sort. Assumes nothing.
use mathlib.Core.Bool.{decide}
use mathlib.Core.Path.{sym, ap}
use Rattle.graphql.specs.Json.{a_long, an_int}
use Rattle.completing.specs.Judged.{int_taken}
use Rattle.completing.proofs.Sorts.{is_not}
use Rattle.completing.proofs.result_coercion.int_takes.Goals as goal

pub returns-in-Int : goal.returns-in-Int
unfolding decide
returns-in-Int c = sym (ap int_taken c.in-Int.is)

pub returns-in-Long : goal.returns-in-Long
unfolding decide
returns-in-Long c = sym (ap int_taken c.in-Long.is)

pub returns-in_default : goal.returns-in_default
returns-in_default c = rw (is_not an_int _ c.in_default.not-Int, is_not a_long _ c.in_default.not-Long)
