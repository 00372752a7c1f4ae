-- In lawful tables the members of a type are rows that are there, and a type that is not there has none. Assumes nothing.
use mathlib.Core.Path.{◌≡◌}
use mathlib.Core.Bool.{true, ◌&&◌}
use Prim.Native.Nat.{ℕ, ◌+◌, ◌*◌, ◌≤◌, ◌<◌}
use native.Mathlib.Decide.{dec_le}
use native.Mathlib.Omega.{arith}
use lib.ListN.{length, get_or-eq_default}
use borrow.Author.Tests.{leb-true}
use Rattle.rows.specs.Layout.{type_width}
use Rattle.rows.specs.Limits.{most_types, most_rows}
use Rattle.rows.specs.Rows.{rows_of, cell}
use Rattle.rows.specs.Schema.{type_at}
use Rattle.rows.proofs.Every.{and_right}
use Rattle.rules.specs.Rows.{is_row, within}
use Rattle.tables.specs.Tables.{Tables, name_count, type_count, member_count, field_count}
use Rattle.tables.specs.Lawful.{lawful}
use Rattle.tables.proofs.Facts.{whole, at_most, types_counted, type_row_lem}
use Rattle.lookup.specs.Found.{Listed}

module _ (T : Tables) (h : lawful T ≡ true) where
  -- what is there has its parts there; what is not stands past the table's end, where words are 0
  members_there : (type : ℕ) → type < type_count T → (type_at T.types type).members.first + (type_at T.types type).members.count ≤ most_rows
  unfolding rows_of
  members_there type l =
      let t = type_at T.types type in
      let parts = and_right (is_row (name_count T) t.name) (within (field_count T) t.fields && within (member_count T) t.members) (type_row_lem T h type l) in
      let r = leb-true (t.members.first + t.members.count) (member_count T)
      (and_right (within (field_count T) t.fields) (within (member_count T) t.members) parts) in
      omega arith

  members_past : (type : ℕ) → type_count T ≤ type → (type_at T.types type).members.first + (type_at T.types type).members.count ≤ most_rows
  unfolding type_at cell rows_of
  members_past type l =
      let w = whole type_width 0 most_types T.types (types_counted T h) in
      let m = at_most type_width 0 most_types T.types (types_counted T h) in
      let a : length T.types ≤ type * 6 + 4 = omega arith in
      let b : length T.types ≤ type * 6 + 5 = omega arith in
      rw (get_or-eq_default T.types 0 {n = type * 6 + 4} a, get_or-eq_default T.types 0 {n = type * 6 + 5} b) (omega arith)

  pub listed : Listed T.types
  listed = record { within = λ type. go type (dec_le (type_count T) type) }
    where
      go : (type : ℕ) → Dec (type_count T ≤ type) → (type_at T.types type).members.first + (type_at T.types type).members.count ≤ most_rows
      go type (yes l) = members_past type l
      go type (no l) = members_there type (omega arith)
