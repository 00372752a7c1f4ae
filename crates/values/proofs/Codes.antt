-- Outcomes are told apart by their numbers. Assumes nothing.
use mathlib.Core.Path.{◌≡◌, refl, sym, ap, ◌∙◌}
use mathlib.Core.Bool.{cond}
use Prim.Native.Nat.{ℕ}
use lib.Dec.{eqb}
use Rattle.codes.specs.Outcome.{code_of}
use Rattle.codes.specs.declared.outcome.Outcome.{Outcome}
use Rattle.codes.specs.declared.outcome.Outcome.TheVariants.{Answered, Unlawful, AsksForSchema, TooFar, TooManyFields, VariableInLiteral, TextTooLong, RecordsTooLong, TooDeep}

-- the outcome that has this number
outcome_of : ℕ → Outcome
outcome_of n =
    cond (eqb n 0) Answered
    (cond (eqb n 1) Unlawful
    (cond (eqb n 2) AsksForSchema
    (cond (eqb n 3) TooFar
    (cond (eqb n 4) TooManyFields
    (cond (eqb n 5) VariableInLiteral (cond (eqb n 6) TextTooLong (cond (eqb n 7) RecordsTooLong TooDeep)))))))

it_is : (o : Outcome) → outcome_of (code_of o) ≡ o
unfolding outcome_of
it_is Answered = refl
it_is Unlawful = refl
it_is AsksForSchema = refl
it_is TooFar = refl
it_is TooManyFields = refl
it_is VariableInLiteral = refl
it_is TextTooLong = refl
it_is RecordsTooLong = refl
it_is TooDeep = refl

pub code_tells : (o o' : Outcome) → code_of o ≡ code_of o' → o ≡ o'
code_tells o o' e = sym (it_is o) ∙ ap outcome_of e ∙ it_is o'
