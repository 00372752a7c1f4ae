-- A table whose rows have a text each, as a start and a length in two columns: names, and the keys of nodes. What is kept of them speaks of
-- the texts by row, and not of the table.
use Rattle.std.specs.Prelude.{◌≡◌, Bool, not, List, ℕ, ◌+◌, ◌%◌, ◌<◌, length, get_or}
use Rattle.rows.specs.Rows.{cell}
use Rattle.rows.specs.Strings.{text_of, same}
use Rattle.rows.specs.declared.strings.Text.{Text}
use Rattle.distinct.specs.Differ.{Since, Lasts, Links}
use Rattle.distinct.specs.Hash.{hash_of}

unfoldable pub text_at : List ℕ → ℕ → ℕ → ℕ → Text
text_at t width column row = record { start = cell t width row column; len = cell t width row (column + 1) }

-- the text of each row, of a pool and a table
abbrev pub texts_of : List ℕ × List ℕ → ℕ → ℕ → ℕ → List ℕ
texts_of pool_table width column row = text_of pool_table.0 (text_at pool_table.1 width column row)

-- the two rows have different texts
abbrev pub other_text : (ℕ → List ℕ) → ℕ → ℕ → Bool
other_text texts one two = not (same (texts one) (texts two))

unfoldable pub text_hash : (ℕ → List ℕ) → ℕ → ℕ
text_hash texts row = hash_of (texts row)

-- in which of the chains a row's text is
unfoldable pub text_chain : (ℕ → List ℕ) → ℕ → ℕ
text_chain texts row = text_hash texts row % 2048

-- the hashes of the texts of the rows below count
pub record Hashed (texts : ℕ → List ℕ) (count : ℕ) (hashes : List ℕ) : Type 0 where
  pub hashed : (row : ℕ) → row < count → get_or hashes row 0 ≡ text_hash texts row

-- what is kept of the rows below count: their chains, their hashes, and since when the texts differ
pub record Kept (texts : ℕ → List ℕ) (count : ℕ) (heads next hashes since : List ℕ) : Type 0 where
  pub headed : Lasts (text_chain texts) 2048 count heads
  pub linked : Links (text_chain texts) count next
  pub hashed : Hashed texts count hashes
  pub told : Since (other_text texts) count since
  pub hashes_sized : length hashes ≡ length next
  pub since_sized : length since ≡ length next + 1
