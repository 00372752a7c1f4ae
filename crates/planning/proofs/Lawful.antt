-- In lawful tables what a plan holds fits 16 bits. Assumes nothing.
use mathlib.Core.Path.{◌≡◌}
use mathlib.Core.Bool.{true, ◌&&◌}
use Prim.Native.Nat.{ℕ, ◌+◌, ◌*◌, ◌≤◌, ◌<◌}
use native.Mathlib.Decide.{dec_le}
use native.Mathlib.Omega.{arith}
use lib.ListN.{length, get_or-eq_default}
use borrow.Author.Tests.{leb-true, ltb-true}
use Rattle.rows.specs.Layout.{type_ref_width, type_width, selection_width}
use Rattle.rows.specs.Limits.{most_names, most_types, most_type_refs, most_fields, most_selections}
use Rattle.rows.specs.Rows.{rows_of, cell}
use Rattle.rows.specs.Schema.{type_ref_at, type_at}
use Rattle.rows.specs.Document.{field_selection, selection_at}
use Rattle.rows.specs.declared.schema.TypeRef.{TypeRef}
use Rattle.rows.specs.declared.schema.TypeRef.TheVariants as ref
use Rattle.rows.proofs.Every.{and_left, and_right}
use Rattle.rules.specs.Rows.{is_row, within}
use Rattle.rules.specs.Schema.{ref_lawful}
use Rattle.rules.specs.Document.{condition_lawful, field_selection_lawful, what_lawful}
use Rattle.tables.specs.Tables.{Tables, name_count, ref_count, type_count, member_count, field_count, set_count, selection_count, given_count}
use Rattle.tables.specs.Lawful.{lawful}
use Rattle.tables.proofs.Facts.{whole, at_most, few_names, few_type_refs, few_types, few_fields, types_counted, type_refs_counted, selections_counted, type_ref_row_lem, type_row_lem, selection_row_lem}
use Rattle.collecting.specs.Collecting.{FieldRow}
use Rattle.planning.specs.Expected.{ref_of}
use Rattle.planning.specs.Plans.{Fitting}

module _ (T : Tables) (h : lawful T ≡ true) where
  ref_there : (ty : ℕ) → ty < ref_count T → ref_of (type_ref_at T.refs ty) < 65536
  unfolding ref_of
  ref_there ty l = go (type_ref_at T.refs ty) (type_ref_row_lem T h ty l)
    where
      go : (t : TypeRef) → ref_lawful (name_count T) ty t ≡ true → ref_of t < 65536
      go (ref.Named name nullable) e = omega (arith, ltb-true name (name_count T) e, few_names T h)
      go (ref.ListOf inner nullable) e = omega (arith, ltb-true inner ty e, few_type_refs T h)
      go ref.Unknown e = omega arith

  ref_past : (ty : ℕ) → ref_count T ≤ ty → ref_of (type_ref_at T.refs ty) < 65536
  unfolding ref_of type_ref_at cell rows_of
  ref_past ty l =
      let w = whole type_ref_width 0 most_type_refs T.refs (type_refs_counted T h) in
      let m = at_most type_ref_width 0 most_type_refs T.refs (type_refs_counted T h) in
      let a : length T.refs ≤ ty * 3 + 0 = omega arith in
      let b : length T.refs ≤ ty * 3 + 1 = omega arith in
      let c : length T.refs ≤ ty * 3 + 2 = omega arith in
      rw (
        get_or-eq_default T.refs 0 {n = ty * 3 + 0} a,
        get_or-eq_default T.refs 0 {n = ty * 3 + 1} b,
        get_or-eq_default
            T.refs 0 {n = ty * 3 + 2} c,
      )
      (omega arith)

  fields_there : (type : ℕ) → type < type_count T → (type_at T.types type).fields.first + (type_at T.types type).fields.count ≤ most_fields
  fields_there type l =
      let t = type_at T.types type in
      let parts = and_right (is_row (name_count T) t.name) (within (field_count T) t.fields && within (member_count T) t.members)
      (type_row_lem T h type l) in
      let r = leb-true (t.fields.first + t.fields.count) (field_count T)
      (and_left (within (field_count T) t.fields) (within (member_count T) t.members) parts) in
      omega (arith, few_fields T h)

  fields_past : (type : ℕ) → type_count T ≤ type → (type_at T.types type).fields.first + (type_at T.types type).fields.count ≤ most_fields
  unfolding type_at cell rows_of
  fields_past type l =
      let w = whole type_width 0 most_types T.types (types_counted T h) in
      let m = at_most type_width 0 most_types T.types (types_counted T h) in
      let a : length T.types ≤ type * 6 + 2 = omega arith in
      let b : length T.types ≤ type * 6 + 3 = omega arith in
      rw (get_or-eq_default T.types 0 {n = type * 6 + 2} a, get_or-eq_default T.types 0 {n = type * 6 + 3} b) (omega arith)

  names_there : (row : ℕ) → FieldRow T.selections row → row < selection_count T
      → ((field_selection T.selections row).name < most_names) × ((field_selection T.selections row).key < most_names)
  names_there row f l =
      let s = field_selection T.selections row in
      let n = selection_at T.selections row in
      let what = and_right (condition_lawful (name_count T) n.skip && condition_lawful (name_count T) n.include)
      (what_lawful (name_count T) (ref_count T) (set_count T) (given_count T) n.what) (selection_row_lem T h row l) in
      let is : field_selection_lawful (name_count T) (ref_count T) (set_count T) (given_count T) s ≡ true = rw f.is at what in
      let some = and_left ((is_row (name_count T) s.name && is_row (name_count T) s.key) && (within (given_count T) s.given && is_row
      (ref_count T) s.ty))
      (is_row (set_count T) s.set) is in
      let two = and_left (is_row (name_count T) s.name && is_row (name_count T) s.key) (within (given_count T) s.given && is_row (ref_count T)
      s.ty) some in
      let one = ltb-true s.name (name_count T) (and_left (is_row (name_count T) s.name) (is_row (name_count T) s.key) two) in
      let other = ltb-true s.key (name_count T) (and_right (is_row (name_count T) s.name) (is_row (name_count T) s.key) two) in
      let few = few_names T h in
      (omega arith, omega arith)

  names_past : (row : ℕ) → selection_count T ≤ row
      → ((field_selection T.selections row).name < most_names) × ((field_selection T.selections row).key < most_names)
  unfolding field_selection cell rows_of
  names_past row l =
      let w = whole selection_width 0 most_selections T.selections (selections_counted T h) in
      let m = at_most selection_width 0 most_selections T.selections (selections_counted T h) in
      let a : length T.selections ≤ row * 10 + 4 = omega arith in
      let b : length T.selections ≤ row * 10 + 5 = omega arith in
      rw (get_or-eq_default T.selections 0 {n = row * 10 + 4} a, get_or-eq_default T.selections 0 {n = row * 10 + 5} b)
      (omega arith, omega arith)

  pub fitting : Fitting T.refs T.types T.fields T.selections
  fitting = record {
    referred = record { small = λ ty. refs ty (dec_le (ref_count T) ty); few = few_types T h };
    defined = λ type. fields type (dec_le (type_count T) type);
    named = λ row f. (names row f (dec_le (selection_count T) row)).0;
    keyed = λ row f. (names row f (dec_le (selection_count T) row)).1;
  }
    where
      refs : (ty : ℕ) → Dec (ref_count T ≤ ty) → ref_of (type_ref_at T.refs ty) < 65536
      refs ty (yes l) = ref_past ty l
      refs ty (no l) = ref_there ty (omega arith)

      fields : (type : ℕ) → Dec (type_count T ≤ type) → (type_at T.types type).fields.first + (type_at T.types type).fields.count ≤ most_fields
      fields type (yes l) = fields_past type l
      fields type (no l) = fields_there type (omega arith)

      names : (row : ℕ) → FieldRow T.selections row → Dec (selection_count T ≤ row)
          → ((field_selection T.selections row).name < most_names) × ((field_selection T.selections row).key < most_names)
      names row f (yes l) = names_past row l
      names row f (no l) = names_there row f (omega arith)
