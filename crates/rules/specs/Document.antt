-- What document 01 asks of the operation's tables. Of tables other than the row's own it mostly matters only how many rows they
-- have: here `names`, `refs`, `sets` .. are these numbers where a table is not meant.
use Rattle.std.specs.Prelude.{List, Bool, true, false, not, ◌&&◌, cond, ℕ, ◌+◌, ltb, eqb}
use Rattle.rows.specs.Layout.{selection_width, given_width, fragment_width}
use Rattle.rows.specs.Rows.{all, cell, rows_of, option_of}
use Rattle.rows.specs.Document.{set_at, selection_of, selection_at, given_at, fragment_at}
use Rattle.rules.specs.Rows.{is_row, row_or_none, within, is_new, distinct}
use Rattle.rows.specs.declared.layout.Range.{Range}
use Rattle.std.specs.Prelude.{Option, Some, None}
use Rattle.rows.specs.declared.document.Condition.{Condition}
use Rattle.rows.specs.declared.document.Condition.TheVariants as condition
use Rattle.rows.specs.declared.document.FieldSelection.{FieldSelection}
use Rattle.rows.specs.declared.document.Selected.{Selected}
use Rattle.rows.specs.declared.document.Selected.TheVariants.{Field, Spread, Inline, Unknown}
use Rattle.rows.specs.declared.document.Selection.{Selection}

-- "Selections .., in sets": a set is a range of selections
abbrev pub set_row : ℕ → List ℕ → ℕ → Bool
set_row selections sets row = within selections (set_at sets row)

-- "Skip and include are each: none, false, true, or a variable."
abbrev pub condition_lawful : ℕ → Condition → Bool
condition_lawful names condition.Absent = true
condition_lawful names condition.False = true
condition_lawful names condition.True = true
condition_lawful names (condition.Variable name) = is_row names name

-- "A field row has name, response key, arguments, child set, place, and its attached type"
abbrev pub field_selection_lawful : ℕ → ℕ → ℕ → ℕ → FieldSelection → Bool
field_selection_lawful names refs sets given field =
    ((is_row names field.name && is_row names field.key) && (within given field.given && is_row refs field.ty))
    && is_row sets field.set

-- what a selection of this kind is, with this name, or with these fields' words
abbrev pub selected_of : ℕ → ℕ → FieldSelection → Selected
selected_of kind name field =
    cond (eqb kind 0) (Field field)
    (cond (eqb kind 1) (Spread name)
    (cond (eqb kind 2) (Inline (option_of name) field.set)
    Unknown))

-- a field, a spread or an inline fragment, whose rows are all there
abbrev pub what_lawful : ℕ → ℕ → ℕ → ℕ → Selected → Bool
what_lawful names refs sets given (Field field) = field_selection_lawful names refs sets given field
what_lawful names refs sets given (Spread name) = is_row names name
what_lawful names refs sets given (Inline type set) = row_or_none names type && is_row sets set
what_lawful names refs sets given Unknown = false

abbrev pub selection_lawful : ℕ → ℕ → ℕ → ℕ → Selection → Bool
selection_lawful names refs sets given selection =
    (condition_lawful names selection.skip && condition_lawful names selection.include)
    && what_lawful names refs sets given selection.what

abbrev pub selection_row : ℕ → ℕ → ℕ → ℕ → List ℕ → ℕ → Bool
selection_row names refs sets given selections row = selection_lawful names refs sets given (selection_at selections row)

-- an argument given is a name and a literal
abbrev pub given_row : ℕ → ℕ → List ℕ → ℕ → Bool
given_row names literals given row = is_row names (given_at given row).name && is_row literals (given_at given row).literal

-- "argument names within a field or selection"
abbrev pub given_of : List ℕ → Selected → Bool
given_of given (Field field) = distinct given given_width 0 field.given
given_of given (Spread name) = true
given_of given (Inline type set) = true
given_of given Unknown = true

abbrev pub given_differ : List ℕ → List ℕ → ℕ → Bool
given_differ selections given row = given_of given (selection_of selections row)

-- a fragment is a name, a type condition and a set
abbrev pub fragment_row : ℕ → ℕ → List ℕ → ℕ → Bool
fragment_row names sets fragments row =
    (is_row names (fragment_at fragments row).name && is_row names (fragment_at fragments row).condition)
    && is_row sets (fragment_at fragments row).set

-- "Fragments, up to 64, distinct names."
abbrev pub fragment_name_new : List ℕ → ℕ → Bool
fragment_name_new fragments row = is_new fragments fragment_width 0 0 row

-- the set that a selection owns: a field's child set, an inline fragment's set
abbrev pub owned_of : ℕ → ℕ → Option ℕ
owned_of kind set =
    cond (eqb kind 0) (cond (eqb set 0) None (Some set))
    (cond (eqb kind 2) (Some set)
    None)

unfoldable pub owned_set : List ℕ → ℕ → Option ℕ
owned_set selections row = owned_of (cell selections selection_width row 0) (cell selections selection_width row 8)

-- "A child set has a larger number than its parent."
abbrev pub larger_than : ℕ → Option ℕ → Bool
larger_than set None = true
larger_than set (Some child) = ltb set child

abbrev pub child_larger : List ℕ → ℕ → ℕ → Bool
child_larger selections set row = larger_than set (owned_set selections row)

unfoldable pub children_larger : List ℕ → ℕ → Range → Bool
children_larger selections set rows = all (λ i. child_larger selections set (rows.first + i)) rows.count

abbrev pub child_sets_larger : List ℕ → List ℕ → ℕ → Bool
child_sets_larger sets selections row = children_larger selections row (set_at sets row)

-- "No set belongs to two owners (operation, field, inline fragment, fragment)."
-- A set that an owner has is not the operation's, and none of the first n selections owns it.
abbrev pub owns_other : ℕ → Option ℕ → Bool
owns_other set None = true
owns_other set (Some other) = not (eqb set other)

unfoldable pub owned_nowhere : List ℕ → ℕ → ℕ → Bool
owned_nowhere selections set n = all (λ j. owns_other set (owned_set selections j)) n

abbrev pub alone : List ℕ → ℕ → Option ℕ → Bool
alone selections n None = true
alone selections n (Some set) = not (eqb set 0) && owned_nowhere selections set n

-- a selection owns its set alone among the operation and the selections before it
abbrev pub selection_owns_alone : List ℕ → ℕ → Bool
selection_owns_alone selections row = alone selections row (owned_set selections row)

-- a fragment among the operation, all selections and the fragments before it
abbrev pub fragment_owns_alone : List ℕ → List ℕ → ℕ → Bool
fragment_owns_alone selections fragments row =
    alone selections (rows_of selections selection_width) (Some (fragment_at fragments row).set) && is_new fragments fragment_width 2 0 row
