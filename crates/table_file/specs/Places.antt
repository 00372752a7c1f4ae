-- How far a text is read.
use Rattle.std.specs.Prelude.{ℕ, ◌≤◌, List, length, Result, MatchResult}
use Rattle.table_file.specs.declared.fault.Misread.{Misread}

-- as far as `from` and no farther than the text's end; a fault is within the text too, or at its end
abbrev pub Reaches : List ℕ → ℕ → Result ℕ Misread → Type 0
Reaches text from r = MatchResult r (λ end. (from ≤ end) × (end ≤ length text)) (λ wrong. (from ≤ wrong.at) × (wrong.at ≤ length text))
