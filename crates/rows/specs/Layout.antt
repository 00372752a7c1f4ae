-- How many words a row of each table has.
use Rattle.std.specs.Prelude.{ℕ}

abbrev pub name_width : ℕ
name_width = 2

abbrev pub type_ref_width : ℕ
type_ref_width = 3

abbrev pub type_width : ℕ
type_width = 6

abbrev pub member_width : ℕ
member_width = 1

abbrev pub field_width : ℕ
field_width = 6

abbrev pub argument_width : ℕ
argument_width = 4

abbrev pub set_width : ℕ
set_width = 2

abbrev pub selection_width : ℕ
selection_width = 10

abbrev pub given_width : ℕ
given_width = 2

abbrev pub fragment_width : ℕ
fragment_width = 3

abbrev pub node_width : ℕ
node_width = 5

abbrev pub literal_width : ℕ
literal_width = 5

abbrev pub variable_width : ℕ
variable_width = 2

abbrev pub answer_width : ℕ
answer_width = 5
