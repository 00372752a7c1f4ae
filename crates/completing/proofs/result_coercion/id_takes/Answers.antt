-- Int, long, string, and every other sort. Assumes nothing.
use mathlib.Core.Bool.{decide}
use mathlib.Core.Logic.{inl, inr}
use mathlib.Core.Path.{sym, ap}
use Rattle.graphql.specs.Json.{a_long, a_string, an_int}
use Rattle.completing.specs.Judged.{id_taken}
use Rattle.completing.proofs.Sorts.{is_not}
use Rattle.completing.proofs.result_coercion.id_takes.Goals as goal

pub returns-in-Int : goal.returns-in-Int
unfolding decide
returns-in-Int c = elim c.in-Int.is [
  | inl h ↦ sym (ap id_taken h)
  | inr k ↦ elim k [ inl h ↦ sym (ap id_taken h) | inr h ↦ sym (ap id_taken h) ]
]

pub returns-in_default : goal.returns-in_default
returns-in_default c =
    rw (is_not a_string _ c.in_default.not-String, is_not an_int _ c.in_default.not-Int, is_not a_long _ c.in_default.not-Long)
