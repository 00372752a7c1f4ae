-- How much is held of each table.
use Rattle.std.specs.Prelude.{ℕ, ◌<◌, ◌≤◌, List, [], ◌∷◌, get_or}
use Rattle.rows.specs.Layout.{name_width, type_ref_width, type_width, member_width, field_width, argument_width, set_width, selection_width}
use Rattle.rows.specs.Layout.{given_width, fragment_width, node_width, literal_width, variable_width, answer_width}

-- how many words there is room for in a table's region
abbrev pub region : ℕ
region = 20640

-- No more bytes than the pool has room for, and of each other table no more words than its region has.
pub record Within (sizes : List ℕ) : Type 0 where
  pub pool : get_or sizes 0 0 ≤ 69632
  pub tables : (k : ℕ) → 0 < k → get_or sizes k 0 ≤ region

-- How many words a row has of each table. The pool has no rows; the root is a row of one number.
abbrev pub widths : List ℕ
widths =
    0 ∷ name_width ∷ type_ref_width ∷ type_width ∷ member_width ∷ field_width ∷ argument_width ∷ set_width ∷ selection_width ∷ given_width ∷ fragment_width
    ∷ node_width ∷ literal_width ∷ variable_width ∷ answer_width ∷ 1 ∷ []

-- the same of the table of a number, and 0 where there is none
unfoldable pub width_of : ℕ → ℕ
width_of number = get_or widths number 0
