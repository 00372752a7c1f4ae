-- What reading a text gives, whatever the text is.
use Rattle.std.specs.Prelude.{ℕ, ◌≤◌, List, length, Result, MatchResult}
use Rattle.table_file.specs.Sizes.{Within}
use Rattle.table_file.specs.declared.lines.Contents.{Contents}
use Rattle.table_file.specs.declared.lines.NoTableFile.{NoTableFile}

-- sizes within their bounds, and a line that the text has
pub record Accepted (text : List ℕ) (r : Contents) : Type 0 where
  pub sizes : Within r.sizes
  pub line : r.line ≤ length text

-- a line that the text has, and a part of it
pub record Refused (text : List ℕ) (r : NoTableFile) : Type 0 where
  pub line : r.line ≤ length text
  pub part : r.from ≤ r.to
  pub inside : r.to ≤ length text

abbrev pub Read : List ℕ → Result Contents NoTableFile → Type 0
Read text r = MatchResult r (Accepted text) (Refused text)
