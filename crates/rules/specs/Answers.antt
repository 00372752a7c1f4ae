-- What document 01 asks of the resolvers' answers: "skip, error, leaf, list, object (type name and a row for each field name
-- answered, names distinct), or echo (..). The first is the root and is an object".
use Rattle.std.specs.Prelude.{List, Bool, true, false, ◌&&◌, ℕ}
use Rattle.rows.specs.Layout.{answer_width}
use Rattle.rows.specs.Answers.{answer_at, answer_name}
use Rattle.rules.specs.Rows.{is_row, within, distinct}
use Rattle.rows.specs.declared.answers.Answer.{Answer}
use Rattle.rows.specs.declared.answers.Answer.TheVariants as answer

-- "skip, error, leaf, list, object .., or echo", whose rows are there. `names`, `nodes` and `answers` are how many there are
abbrev pub answer_lawful : ℕ → ℕ → ℕ → Answer → Bool
answer_lawful names nodes answers answer.Skip = true
answer_lawful names nodes answers answer.Error = true
answer_lawful names nodes answers (answer.Leaf node) = is_row nodes node
answer_lawful names nodes answers (answer.List rows) = within answers rows
answer_lawful names nodes answers (answer.Object type fields) = is_row names type && within answers fields
answer_lawful names nodes answers (answer.Echo name) = is_row names name
answer_lawful names nodes answers answer.Unknown = false

abbrev pub answer_row : ℕ → ℕ → ℕ → List ℕ → ℕ → Bool
answer_row names nodes count answers row = is_row names (answer_name answers row) && answer_lawful names nodes count (answer_at answers row)

-- "a row for each field name answered, names distinct"
abbrev pub answer_parts : List ℕ → Answer → Bool
answer_parts answers answer.Skip = true
answer_parts answers answer.Error = true
answer_parts answers (answer.Leaf node) = true
answer_parts answers (answer.List rows) = true
answer_parts answers (answer.Object type fields) = distinct answers answer_width 1 fields
answer_parts answers (answer.Echo name) = true
answer_parts answers answer.Unknown = true

abbrev pub answer_names_differ : List ℕ → ℕ → Bool
answer_names_differ answers row = answer_parts answers (answer_at answers row)

-- "The first is the root and is an object"
abbrev pub is_object : Answer → Bool
is_object answer.Skip = false
is_object answer.Error = false
is_object (answer.Leaf node) = false
is_object (answer.List rows) = false
is_object (answer.Object type fields) = true
is_object (answer.Echo name) = false
is_object answer.Unknown = false

abbrev pub root_answer : List ℕ → Bool
root_answer answers = is_object (answer_at answers 0)
