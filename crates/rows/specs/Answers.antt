-- The answers of the resolvers. "Answers, up to 4,096: skip, error, leaf, list, object (type
-- name and a row for each field name answered, names distinct), or echo (the coerced value of a named argument, an error if there
-- is none). The first is the root and is an object".
use Rattle.std.specs.Prelude.{List, cond, ℕ, eqb}
use Rattle.rows.specs.Layout.{answer_width}
use Rattle.rows.specs.Rows.{cell}
use Rattle.rows.specs.declared.answers.Answer.{Answer}
use Rattle.rows.specs.declared.answers.Answer.TheVariants as answer

-- Answers: kind, the name of the field that a child of an object answers, and three words by kind.
abbrev pub answer_of : ℕ → ℕ → ℕ → ℕ → Answer
answer_of kind a b c =
    cond (eqb kind 0) answer.Skip
    (cond (eqb kind 1) answer.Error
    (cond (eqb kind 2) (answer.Leaf a)
    (cond (eqb kind 3) (answer.List (record { first = a; count = b }))
    (cond (eqb kind 4) (answer.Object a (record { first = b; count = c }))
    (cond (eqb kind 5) (answer.Echo a)
    answer.Unknown)))))

unfoldable pub answer_at : List ℕ → ℕ → Answer
answer_at answers row =
    answer_of (cell answers answer_width row 0) (cell answers answer_width row 2) (cell answers answer_width row 3) (cell answers answer_width row 4)

abbrev pub answer_name : List ℕ → ℕ → ℕ
answer_name answers row = cell answers answer_width row 1
