-- "Defaults contain no variable."
use Rattle.std.specs.Prelude.{List, Bool, true, false, ◌&&◌, ℕ, zero, suc, ◌+◌}
use Rattle.rows.specs.Layout.{field_width, argument_width, literal_width}
use Rattle.rows.specs.Rows.{all, rows_of}
use Rattle.rows.specs.Schema.{field_at, argument_at}
use Rattle.rows.specs.Json.{literal_at}
use Rattle.rows.specs.declared.layout.Range.{Range}
use Rattle.std.specs.Prelude.{Option, Some, None}
use Rattle.rows.specs.declared.json.Literal.{Literal}
use Rattle.rows.specs.declared.json.Literal.TheVariants as literal

-- every row of the range passes the test
abbrev pub each_of : (ℕ → Bool) → Range → Bool
each_of test rows = all (λ i. test (rows.first + i)) rows.count

-- a literal is no variable, and its parts pass the test
abbrev pub closed_but : (ℕ → Bool) → Literal → Bool
closed_but part literal.Null = true
closed_but part literal.False = true
closed_but part literal.True = true
closed_but part (literal.Natural n) = true
closed_but part (literal.Negative m) = true
closed_but part (literal.Float text) = true
closed_but part (literal.String text) = true
closed_but part (literal.List rows) = each_of part rows
closed_but part (literal.Object rows) = each_of part rows
closed_but part (literal.Enum name) = true
closed_but part (literal.Variable name) = false
closed_but part literal.Unknown = true

-- no variable stands in the literal, down to a depth
unfoldable pub closed_to : List ℕ → ℕ → ℕ → Bool
closed_to literals zero row = true
closed_to literals (suc depth) row = closed_but (closed_to literals depth) (literal_at literals row)

-- no variable stands anywhere in it: a literal's parts come later, so nothing is deeper than there are rows
abbrev pub closed : List ℕ → ℕ → Bool
closed literals row = closed_to literals (rows_of literals literal_width) row

abbrev pub default_closed : List ℕ → Option ℕ → Bool
default_closed literals None = true
default_closed literals (Some row) = closed literals row

abbrev pub field_default : List ℕ → List ℕ → ℕ → Bool
field_default fields literals row = default_closed literals (field_at fields row).default

abbrev pub argument_default : List ℕ → List ℕ → ℕ → Bool
argument_default arguments literals row = default_closed literals (argument_at arguments row).default

unfoldable pub defaults_closed : List ℕ → List ℕ → List ℕ → Bool
defaults_closed fields arguments literals =
    all (field_default fields literals) (rows_of fields field_width)
    && all (argument_default arguments literals) (rows_of arguments argument_width)
