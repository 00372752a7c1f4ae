-- A table is a list of words, a fixed number of words a row. What every table has: rows, and words in columns.
use Rattle.std.specs.Prelude.{List, Bool, true, ◌&&◌, cond, ℕ, zero, suc, ◌+◌, ◌*◌, ◌-◌, ◌/◌, min, length, get_or, eqb}
use Rattle.rows.specs.Limits.{most_rows}
use Rattle.std.specs.Prelude.{Option, Some, None}

-- every number below n passes the test
unfoldable pub all : (ℕ → Bool) → ℕ → Bool
all p zero = true
all p (suc n) = all p n && p n

-- how many rows a table has. A row's number is a word, so no more count than words can number
unfoldable pub rows_of : List ℕ → ℕ → ℕ
rows_of t width = min (length t / width) most_rows

-- the word in a column of a row; 0 where the table ends before it
unfoldable pub cell : List ℕ → ℕ → ℕ → ℕ → ℕ
cell t width row column = get_or t (row * width + column) 0

-- a word that may name a row: 0 for none, and otherwise one more than the row's number
abbrev pub option_of : ℕ → Option ℕ
option_of word = cond (eqb word 0) None (Some (word - 1))
