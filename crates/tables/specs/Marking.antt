-- How the check finds a variable in a default: of each literal, from the last to the first, it keeps how many from it on, one behind the
-- other, have no variable in them. No public contract cites this.
use Rattle.std.specs.Prelude.{List, Bool, true, false, ◌≡◌, ℕ, ◌+◌, ◌≤◌, ◌<◌, length, get_or, leb}
use Rattle.rows.specs.Layout.{field_width, argument_width, literal_width}
use Rattle.rows.specs.Limits.{most_literals}
use Rattle.rows.specs.Rows.{rows_of, cell, option_of}
use Rattle.rows.specs.Schema.{field_at, argument_at}
use Rattle.rows.specs.Json.{literal_at}
use Rattle.rules.specs.Rows.{row_or_none, later}
use Rattle.rows.specs.declared.layout.Range.{Range}
use Rattle.std.specs.Prelude.{Option, Some, None}
use Rattle.rows.specs.declared.json.Literal.{Literal}
use Rattle.rows.specs.declared.json.Literal.TheVariants as literal
use Rattle.tables.specs.Defaults.{each_of, closed}

-- a run that begins at a literal, by whether no variable stands in it and by the run behind it
abbrev pub run : Bool → ℕ → ℕ
run true behind = behind + 1
run false behind = 0

-- the rows are in the run that begins at the first of them
abbrev pub in_run : List ℕ → Range → Bool
in_run runs rows = leb rows.count (get_or runs rows.first 0)

-- a literal is no variable, and its parts are in one run
abbrev pub closed_in : List ℕ → Literal → Bool
closed_in runs literal.Null = true
closed_in runs literal.False = true
closed_in runs literal.True = true
closed_in runs (literal.Natural n) = true
closed_in runs (literal.Negative m) = true
closed_in runs (literal.Float text) = true
closed_in runs (literal.String text) = true
closed_in runs (literal.List rows) = in_run runs rows
closed_in runs (literal.Object rows) = in_run runs rows
closed_in runs (literal.Enum name) = true
closed_in runs (literal.Variable name) = false
closed_in runs literal.Unknown = true

abbrev pub default_unmarked : List ℕ → Option ℕ → Bool
default_unmarked runs None = true
default_unmarked runs (Some row) = in_run runs (record { first = row; count = 1 })

-- the default in a column of a row
abbrev pub row_unmarked : List ℕ → ℕ → ℕ → List ℕ → ℕ → Bool
row_unmarked t width column runs row = default_unmarked runs (option_of (cell t width row column))

-- the runs are right from a row on; none is longer than there is room for literals
pub record Marked (literals runs : List ℕ) (from : ℕ) : Type 0 where
  pub size : length runs ≡ most_literals + 1
  pub low : (row : ℕ) → from ≤ row → row ≤ most_literals → row + get_or runs row 0 ≤ most_literals
  pub right : (rows : Range) → from ≤ rows.first → rows.first + rows.count ≤ rows_of literals literal_width → in_run runs rows ≡ each_of (closed literals) rows

-- What the marking rests on: the parts of a literal come later than it, and there are not too many literals.
abbrev pub parts_later : ℕ → ℕ → Literal → Bool
parts_later literals row literal.Null = true
parts_later literals row literal.False = true
parts_later literals row literal.True = true
parts_later literals row (literal.Natural n) = true
parts_later literals row (literal.Negative m) = true
parts_later literals row (literal.Float text) = true
parts_later literals row (literal.String text) = true
parts_later literals row (literal.List rows) = later literals row rows
parts_later literals row (literal.Object rows) = later literals row rows
parts_later literals row (literal.Enum name) = true
parts_later literals row (literal.Variable name) = true
parts_later literals row literal.Unknown = true

pub record Nested (literals : List ℕ) : Type 0 where
  pub few : rows_of literals literal_width ≤ most_literals
  pub parts : (row : ℕ) → row < rows_of literals literal_width → parts_later (rows_of literals literal_width) row (literal_at literals row) ≡ true

-- and the defaults are there
pub record Defaulted (fields arguments literals : List ℕ) : Type 0 where
  pub of_fields : (row : ℕ) → row < rows_of fields field_width → row_or_none (rows_of literals literal_width) (field_at fields row).default ≡ true
  pub of_arguments : (row : ℕ) → row < rows_of arguments argument_width → row_or_none (rows_of literals literal_width) (argument_at arguments row).default ≡ true
