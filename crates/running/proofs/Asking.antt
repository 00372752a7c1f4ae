-- The rows of the operation's selections, one after another, until one asks for the schema. Assumes nothing.
use mathlib.Core.Path.{◌≡◌, sym, ◌∙◌}
use mathlib.Core.Bool.{Bool, true, false}
use mathlib.Core.List.{List}
use Prim.Native.Nat.{ℕ, ◌+◌, ◌≤◌, ◌<◌}
use native.Mathlib.Nat.{zero-add}
use Rattle.rows.specs.Layout.{selection_width}
use Rattle.rows.specs.Rows.{rows_of}
use Rattle.rows.specs.Document.{selection_of, selection_at}
use Rattle.rows.specs.declared.layout.Range.{Range}
use Rattle.rows.specs.declared.document.Selected.{Selected}
use Rattle.graphql.specs.Lookup.{rows_in}
use Rattle.graphql.specs.Report.{asks_schema, introspects}
use Rattle.lookup.proofs.Searching.{Seeking, seek_begin, seek_next, seek_found, seek_none, none_passes, one_passes}

module _ (selections : List ℕ) where
  abbrev pub asks : ℕ → Bool
  asks row = asks_schema (selection_at selections row).what

  abbrev pub rows : Range
  rows = record { first = 0; count = rows_of selections selection_width }

  -- none of the first rows asks for it
  pub record Unasked (count row : ℕ) : Type 0 where
    pub all : count ≡ rows_of selections selection_width
    pub seeking : Seeking asks rows row

  pub unasked_begin : {count : ℕ} → count ≡ rows_of selections selection_width → Unasked count 0
  unasked_begin e = record { all = e; seeking = seek_begin asks rows }

  module _ {count row : ℕ} (u : Unasked count row) where
    module _ {r : Bool} {what : Selected} (l : row < count) (w : what ≡ selection_of selections row) (e : r ≡ asks_schema what) where
      tested : r ≡ asks row
      unfolding selection_at
      tested = rw (← w) e

      pub unasked_next : r ≡ false → Unasked count (row + 1)
      unasked_next d =
          let z : asks (0 + row) ≡ false = rw zero-add (sym tested ∙ d) in
          record { all = u.all; seeking = seek_next asks rows u.seeking (rw u.all at l) z }

      pub asked_here : r ≡ true → true ≡ introspects selections
      unfolding introspects rows_in
      asked_here d =
          let z : asks (0 + row) ≡ true = rw zero-add (sym tested ∙ d) in
          one_passes asks (rows_in rows) {row = 0 + row} (rw (seek_found asks rows u.seeking (rw u.all at l) z))

    pub asked_nowhere : count ≤ row → false ≡ introspects selections
    unfolding introspects rows_in
    asked_nowhere l = none_passes asks (rows_in rows) (rw (seek_none asks rows u.seeking (rw u.all at l)))

pub ruleset asking_schema = (unasked_begin, unasked_next, asked_here, asked_nowhere)
