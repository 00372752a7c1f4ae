-- Where a rule of the table check is broken first.
use Rattle.std.specs.Prelude.{ℕ, ◌<◌, ◌≡◌, true, false}
use Rattle.std.specs.Prelude.{Option, Some, None}
use Rattle.rows.specs.Rows.{all}
use Rattle.tables.specs.Tables.{Tables}
use Rattle.tables.specs.Rules.{rows_for, holds_at, obeyed}
use Rattle.tables.specs.declared.rule.Rule.{Rule}

-- a row that the rule speaks of, at which it does not hold, while it holds at every row before
pub record BreaksFirst (rule : Rule) (T : Tables) (row : ℕ) : Type 0 where
  pub there : row < rows_for rule T
  pub broken : holds_at rule T row ≡ false
  pub before : all (holds_at rule T) row ≡ true

-- such a row, or the rule is obeyed
abbrev pub FirstBroken : Rule → Tables → Option ℕ → Type 0
FirstBroken rule T (Some row) = BreaksFirst rule T row
FirstBroken rule T None = obeyed rule T ≡ true
