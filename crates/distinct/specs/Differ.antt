-- Rows that differ pairwise, for any test of two rows, and what a search for doubles notes. The tests are the other files' and crates':
-- two words of a column, two names, two keys.
use Rattle.std.specs.Prelude.{◌≡◌, Bool, true, false, not, List, ℕ, ◌+◌, ◌-◌, ◌≤◌, ◌<◌, length, get_or, leb, eqb}
use Rattle.rows.specs.Rows.{all}

-- row first + i differs from each of the i rows from first on
unfoldable pub is_other : (ℕ → ℕ → Bool) → ℕ → ℕ → Bool
is_other other first i = all (λ j. other (first + i) (first + j)) i

-- no two of the count rows from first on are the same
unfoldable pub differ : (ℕ → ℕ → Bool) → ℕ → ℕ → Bool
differ other first count = all (is_other other first) count

-- for each end up to count a row: the rows from first to before end differ exactly if first is that row or a later one
pub record Since (other : ℕ → ℕ → Bool) (count : ℕ) (since : List ℕ) : Type 0 where
  pub told : (end first : ℕ) → end ≤ count → first ≤ end → differ other first (end - first) ≡ leb (get_or since end 0) first

-- r is the row after the last one before end that fails the test, and `from` where none from there on fails it
pub record AfterLast (test : ℕ → Bool) (from end r : ℕ) : Type 0 where
  pub low : from ≤ r
  pub high : r ≤ end
  pub others : (j : ℕ) → r ≤ j → j < end → test j ≡ true
  pub last : from < r → test (r - 1) ≡ false

-- r is the row after the last one before end that has the value v, and 0 where none has it
abbrev pub AfterValue : (ℕ → ℕ) → ℕ → ℕ → ℕ → Type 0
AfterValue value v end r = AfterLast (λ j. not (eqb v (value j))) 0 end r

-- for each value below size, the row after the last one before count that has it
pub record Lasts (value : ℕ → ℕ) (size count : ℕ) (lasts : List ℕ) : Type 0 where
  pub sized : length lasts ≡ size
  pub noted : (v : ℕ) → v < size → AfterValue value v count (get_or lasts v 0)

-- for each row below count, the row after the last one before it that has its value
pub record Links (value : ℕ → ℕ) (count : ℕ) (next : List ℕ) : Type 0 where
  pub linked : (row : ℕ) → row < count → AfterValue value (value row) row (get_or next row 0)

-- on the way back from row: what was passed differs from it, and the row before the cursor has its value
pub record Cursor (other : ℕ → ℕ → Bool) (value : ℕ → ℕ) (row cursor : ℕ) : Type 0 where
  pub high : cursor ≤ row
  pub passed : (j : ℕ) → cursor ≤ j → j < row → other row j ≡ true
  pub met : 0 < cursor → value (cursor - 1) ≡ value row
