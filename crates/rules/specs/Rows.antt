-- What the tables have in common: rows that are there, ranges of them, how many there are, and words that differ.
use Rattle.std.specs.Prelude.{List, Bool, true, not, ◌&&◌, ◌||◌, ℕ, ◌+◌, ◌/◌, ◌%◌, length, ltb, leb, eqb}
use Rattle.rows.specs.Rows.{all, cell}
use Rattle.rows.specs.declared.layout.Range.{Range}
use Rattle.std.specs.Prelude.{Option, Some, None}

-- "A row number names a row that is there.", in a table of so many rows
abbrev pub is_row : ℕ → ℕ → Bool
is_row count row = ltb row count

abbrev pub row_or_none : ℕ → Option ℕ → Bool
row_or_none count None = true
row_or_none count (Some row) = is_row count row

-- every row of the range is there
abbrev pub within : ℕ → Range → Bool
within count rows = leb (rows.first + rows.count) count

-- "Children come later.", where there are any
abbrev pub later : ℕ → ℕ → Range → Bool
later count row rows = (eqb rows.count 0 || ltb row rows.first) && within count rows

-- whole rows, at least so many and at most so many
abbrev pub counted : ℕ → ℕ → ℕ → List ℕ → Bool
counted width least most t = eqb (length t % width) 0 && (leb least (length t / width) && leb (length t / width) most)

-- the two rows have different words in the column
abbrev pub other : List ℕ → ℕ → ℕ → ℕ → ℕ → Bool
other t width column one two = not (eqb (cell t width one column) (cell t width two column))

-- the word of row first + i stands in its column of none of the i rows from first on
unfoldable pub is_new : List ℕ → ℕ → ℕ → ℕ → ℕ → Bool
is_new t width column first i = all (λ j. other t width column (first + i) (first + j)) i

-- no two rows of the range have the same word in the column
unfoldable pub distinct : List ℕ → ℕ → ℕ → Range → Bool
distinct t width column rows = all (is_new t width column rows.first) rows.count
