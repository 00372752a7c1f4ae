-- The operation's tables: sets of selections, arguments given, fragments.
use Rattle.std.specs.Prelude.{List, cond, ℕ, ◌-◌, eqb}
use Rattle.rows.specs.Layout.{set_width, selection_width, given_width, fragment_width}
use Rattle.rows.specs.Rows.{cell, option_of}
use Rattle.rows.specs.declared.layout.Range.{Range}
use Rattle.rows.specs.declared.document.Condition.{Condition}
use Rattle.rows.specs.declared.document.Condition.TheVariants as condition
use Rattle.rows.specs.declared.document.FieldSelection.{FieldSelection}
use Rattle.rows.specs.declared.document.Selected.{Selected}
use Rattle.rows.specs.declared.document.Selected.TheVariants.{Field, Spread, Inline, Unknown}
use Rattle.rows.specs.declared.document.Selection.{Selection}
use Rattle.rows.specs.declared.document.Given.{Given}
use Rattle.rows.specs.declared.document.Fragment.{Fragment}

-- Sets: a range of selections. "Selections, up to 2,048, in sets. Set 0 is the operation's."
unfoldable pub set_at : List ℕ → ℕ → Range
set_at sets row = record { first = cell sets set_width row 0; count = cell sets set_width row 1 }

-- "Skip and include are each: none, false, true, or a variable."
abbrev pub condition_of : ℕ → Condition
condition_of word =
    cond (eqb word 0) condition.Absent
    (cond (eqb word 1) condition.False
    (cond (eqb word 2) condition.True
    (condition.Variable (word - 3))))

-- Selections: kind, skip, include, place, and six words by kind.
-- "A field row has name, response key, arguments, child set, place, and its attached type"; a child set of 0 is none
unfoldable pub field_selection : List ℕ → ℕ → FieldSelection
field_selection selections row = record {
  name = cell selections selection_width row 4;
  key = cell selections selection_width row 5;
  given = record { first = cell selections selection_width row 6; count = cell selections selection_width row 7 };
  set = cell selections selection_width row 8;
  ty = cell selections selection_width row 9;
}

unfoldable pub spread_selection : List ℕ → ℕ → Selected
spread_selection selections row = Spread (cell selections selection_width row 4)

unfoldable pub inline_selection : List ℕ → ℕ → Selected
inline_selection selections row = Inline (option_of (cell selections selection_width row 4)) (cell selections selection_width row 8)

unfoldable pub selection_of : List ℕ → ℕ → Selected
selection_of selections row =
    cond (eqb (cell selections selection_width row 0) 0) (Field (field_selection selections row))
    (cond (eqb (cell selections selection_width row 0) 1) (spread_selection selections row)
    (cond (eqb (cell selections selection_width row 0) 2) (inline_selection selections row)
    Unknown))

unfoldable pub selection_at : List ℕ → ℕ → Selection
selection_at selections row = record {
  what = selection_of selections row;
  skip = condition_of (cell selections selection_width row 1);
  include = condition_of (cell selections selection_width row 2);
  place = cell selections selection_width row 3;
}

-- Arguments given: name, literal.
unfoldable pub given_at : List ℕ → ℕ → Given
given_at given row = record { name = cell given given_width row 0; literal = cell given given_width row 1 }

-- Fragments: name, type condition, set. "Fragments, up to 64, distinct names."
unfoldable pub fragment_at : List ℕ → ℕ → Fragment
fragment_at fragments row = record {
  name = cell fragments fragment_width row 0;
  condition = cell fragments fragment_width row 1;
  set = cell fragments fragment_width row 2;
}
