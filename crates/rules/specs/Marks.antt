-- Numbers below a size, some of them marked; and the words met in a column so far, by marks: what `is_distinct` keeps while it goes through
-- a range.
use Rattle.std.specs.Prelude.{◌≡◌, Bool, false, not, List, ℕ, ◌+◌, ◌<◌, length, get_or, eqb}
use Rattle.rows.specs.Rows.{all, cell}

-- a number below the size has no mark exactly if it is still free
pub record Marked (size : ℕ) (free : ℕ → Bool) (marks : List Bool) : Type 0 where
  pub sized : length marks ≡ size
  pub marked : (n : ℕ) → n < size → not (get_or marks n false) ≡ free n

-- the word stands in the column of none of the i rows from first on
abbrev pub unmet : List ℕ → ℕ → ℕ → ℕ → ℕ → ℕ → Bool
unmet t width column first i word = all (λ j. not (eqb word (cell t width (first + j) column))) i
