-- A search through rows for a word in a column.
use Rattle.std.specs.Prelude.{Bool, List, ℕ, ◌+◌, ◌≤◌, eqb, Option, is_some}
use Rattle.rows.specs.Limits.{most_rows}
use Rattle.rows.specs.Rows.{cell}
use Rattle.rows.specs.Strings.{same}
use Rattle.rows.specs.Names.{name_text}
use Rattle.rows.specs.Schema.{type_at, member_at}

-- the row has this word in the column
abbrev pub has_word : List ℕ → (width column word : ℕ) → ℕ → Bool
has_word t width column word row = eqb (cell t width row column) word

-- the member has this name
abbrev pub is_named : (pool names members string : List ℕ) → ℕ → Bool
is_named pool names members string row = same (name_text pool names (member_at members row)) string

abbrev pub is_found : Option ℕ → Bool
is_found found = is_some found

-- the members that each type lists have numbers that are words; lawful tables give it
pub record Listed (types : List ℕ) : Type 0 where
  pub within : (type : ℕ) → (type_at types type).members.first + (type_at types type).members.count ≤ most_rows
