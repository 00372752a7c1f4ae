-- "Codes handed back": how an entry ends, and its number; and the limits of a walk. Read it after Errors.
use Rattle.std.specs.Prelude.{ℕ}
use Rattle.codes.specs.declared.outcome.Outcome.{Outcome}
use Rattle.codes.specs.declared.outcome.Outcome.TheVariants.{Answered, Unlawful, AsksForSchema, TooFar, TooManyFields, VariableInLiteral, TextTooLong, RecordsTooLong, TooDeep}

abbrev pub code_of : Outcome → ℕ
code_of Answered = 0
code_of Unlawful = 1
code_of AsksForSchema = 2
code_of TooFar = 3
code_of TooManyFields = 4
code_of VariableInLiteral = 5
code_of TextTooLong = 6
code_of RecordsTooLong = 7
code_of TooDeep = 8

-- the codes with which a run stops on its way, and with which an entry refuses
abbrev pub too_far : ℕ
too_far = code_of TooFar

abbrev pub too_many_fields : ℕ
too_many_fields = code_of TooManyFields

abbrev pub variable_in_literal : ℕ
variable_in_literal = code_of VariableInLiteral

-- "a path over 32 segments, or 33 open containers .., 33 open fragments .., or 33 open sets"
abbrev pub most_segments : ℕ
most_segments = 32

abbrev pub most_open : ℕ
most_open = 32

-- "a 129th field"
abbrev pub most_collected : ℕ
most_collected = 128
