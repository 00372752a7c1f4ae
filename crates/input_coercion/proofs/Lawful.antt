-- In lawful tables the parts of a literal and the fields of a type are few, and a node's value is there: the parts of a node come later than it,
-- so that no value is deeper than there are nodes. Assumes nothing.
use Rattle.std.specs.Prelude.{Ok}
use mathlib.Core.Path.{◌≡◌}
use mathlib.Core.Bool.{true, false, ◌&&◌, ◌||◌}
use mathlib.Core.List.{List, []}
use Prim.Native.Nat.{ℕ, zero, suc, ◌+◌, ◌*◌, ◌≤◌, ◌<◌}
use native.Mathlib.Decide.{dec_le}
use native.Mathlib.Omega.{arith}
use lib.Dec.{eqb, ltb}
use lib.ListN.{length, get_or-eq_default}
use borrow.Author.Tests.{ne_eqb, ltb-true, leb-true}
use Rattle.rows.specs.Layout.{type_width, node_width, literal_width}
use Rattle.rows.specs.Limits.{most_types, most_fields, most_nodes, most_literals}
use Rattle.rows.specs.Rows.{rows_of, cell}
use Rattle.rows.specs.Schema.{type_at}
use Rattle.rows.specs.Json.{node_at, literal_at, literal_key, variable_at}
use Rattle.rows.specs.declared.layout.Range.{Range}
use Rattle.rows.specs.declared.schema.TypeDef.{TypeDef}
use Rattle.rows.specs.declared.json.Node.{Node}
use Rattle.rows.specs.declared.json.Node.TheVariants as node
use Rattle.rows.specs.declared.json.Literal.{Literal}
use Rattle.rows.specs.declared.json.Literal.TheVariants as literal
use Rattle.rows.proofs.Every.{and_left, and_right, or_right}
use Rattle.rules.specs.Rows.{is_row, within, later}
use Rattle.rules.specs.Json.{node_lawful, literal_lawful}
use Rattle.tables.specs.Tables.{Tables, name_count, member_count, type_count, field_count, node_count, literal_count}
use Rattle.tables.specs.Lawful.{lawful}
use Rattle.tables.proofs.Facts.{whole, at_most, types_counted, nodes_counted, literals_counted, few_fields, few_literals, type_row_lem, node_row_lem, literal_row_lem}
use Rattle.graphql.specs.Run.{M, in_order}
use Rattle.graphql.specs.Json.{Json}
use Rattle.graphql.specs.Lookup.{rows_from, rows_in}
use Rattle.graphql.specs.Values.{opened, array_of, object_of, value_of, node_value, variable_value, LiteralForm, literal_form}
use Rattle.graphql.specs.Values as defined
use Rattle.input_coercion.specs.Ends.{Valued}
use Rattle.input_coercion.specs.Coerced.{Parted, Valuable, Coercible}
use Rattle.input_coercion.proofs.Ends.{value_pure, ends_made, ends_none, ends_more}

-- ---- ranges

module _ (count row : ℕ) (rows : Range) (e : later count row rows ≡ true) where
  later_within : rows.first + rows.count ≤ count
  later_within = leb-true (rows.first + rows.count) count (and_right (eqb rows.count 0 || ltb row rows.first) (within count rows) e)

  later_than : (part : ℕ) → rows.first ≤ part → part < rows.first + rows.count → row < part
  later_than part l m =
      let z : eqb rows.count 0 ≡ false = ne_eqb rows.count 0 (λ z. let n : rows.count ≡ 0 = z in omega arith) in
      let w = ltb-true row rows.first
      (or_right (eqb rows.count 0) (ltb row rows.first) (and_left (eqb rows.count 0 || ltb row rows.first) (within count rows) e) z) in
      omega arith

-- ---- literals

abbrev nothing : Range
nothing = record { first = 0; count = 0 }

abbrev parts_in : LiteralForm → Range
parts_in defined.null_given = nothing
parts_in (defined.variable name) = nothing
parts_in (defined.shaped defined.single) = nothing
parts_in (defined.shaped (defined.listed rows)) = rows
parts_in (defined.shaped (defined.keyed rows)) = rows

parts_there : (pool : List ℕ) (names count row : ℕ) (l : Literal) → literal_lawful pool names count row l ≡ true
    → (parts_in (literal_form l)).first + (parts_in (literal_form l)).count ≤ count
unfolding literal_form
parts_there pool names count row literal.Null h = omega arith
parts_there pool names count row literal.False h = omega arith
parts_there pool names count row literal.True h = omega arith
parts_there pool names count row (literal.Natural n) h = omega arith
parts_there pool names count row (literal.Negative m) h = omega arith
parts_there pool names count row (literal.Float text) h = omega arith
parts_there pool names count row (literal.String text) h = omega arith
parts_there pool names count row (literal.List rows) h = later_within count row rows h
parts_there pool names count row (literal.Object rows) h = later_within count row rows h
parts_there pool names count row (literal.Enum name) h = omega arith
parts_there pool names count row (literal.Variable name) h = omega arith
parts_there pool names count row literal.Unknown h = omega arith

-- ---- runs that come to a value, one after another

all_valued : {A : Type 0} (run : ℕ → M A) (first n : ℕ) → ((part : ℕ) → first ≤ part → part < first + n → Valued (run part)) → Valued (in_order run (rows_from first n))
unfolding rows_from
all_valued run first zero h = ends_none [] run
all_valued run first (suc n) h =
    ends_more [] run first (rows_from (suc first) n) (Ok tt) (h first (omega arith) (omega arith))
    (all_valued run (suc first) n (λ part l m. h part (omega arith) (omega arith)))

module _ (pool nodes : List ℕ) (room : ℕ) (inside : ℕ → M Json) (lent : List ℕ) (count row : ℕ) (below : (part : ℕ) → row < part → Valued (inside part)) where
  parts_valued : (rows : Range) → later count row rows ≡ true → Valued (in_order inside (rows_in rows))
  unfolding rows_in
  parts_valued rows e = all_valued inside rows.first rows.count (λ part l m. below part (later_than count row rows e part l m))

  node_valued : (n : Node) → node_lawful lent count row n ≡ true → Valued (value_of pool nodes (suc room) inside n)
  unfolding value_of array_of object_of opened
  node_valued node.Null h = value_pure _
  node_valued node.False h = value_pure _
  node_valued node.True h = value_pure _
  node_valued (node.Natural low high) h = value_pure _
  node_valued (node.Negative low high) h = value_pure _
  node_valued (node.Float text) h = value_pure _
  node_valued (node.String text) h = value_pure _
  node_valued (node.Array rows) h = ends_made [] _ _ (Ok tt) (parts_valued rows h)
  node_valued (node.Object rows) h = ends_made [] _ _ (Ok tt) (parts_valued rows h)
  node_valued node.Unknown h = value_pure _

-- ---- the tables

module _ (T : Tables) (h : lawful T ≡ true) where
  -- a row that is not there stands past the table's end, where words are 0
  literal_past : (row : ℕ) → literal_count T ≤ row → literal_at T.literals row ≡ literal.Null
  unfolding literal_at cell rows_of
  literal_past row l =
      let w = whole literal_width 0 most_literals T.literals (literals_counted T h) in
      let m = at_most literal_width 0 most_literals T.literals (literals_counted T h) in
      let e : length T.literals ≤ row * 5 + 0 = omega arith in
      rw (get_or-eq_default T.literals 0 {n = row * 5 + 0} e)

  node_past : (row : ℕ) → node_count T ≤ row → node_at T.nodes row ≡ node.Null
  unfolding node_at cell rows_of
  node_past row l =
      let w = whole node_width 0 most_nodes T.nodes (nodes_counted T h) in
      let m = at_most node_width 0 most_nodes T.nodes (nodes_counted T h) in
      let e : length T.nodes ≤ row * 5 + 0 = omega arith in
      rw (get_or-eq_default T.nodes 0 {n = row * 5 + 0} e)

  fields_past : (type : ℕ) → type_count T ≤ type → (type_at T.types type).fields.first + (type_at T.types type).fields.count ≤ most_fields
  unfolding type_at cell rows_of
  fields_past type l =
      let w = whole type_width 0 most_types T.types (types_counted T h) in
      let m = at_most type_width 0 most_types T.types (types_counted T h) in
      let a : length T.types ≤ type * 6 + 2 = omega arith in
      let b : length T.types ≤ type * 6 + 3 = omega arith in
      rw (get_or-eq_default T.types 0 {n = type * 6 + 2} a, get_or-eq_default T.types 0 {n = type * 6 + 3} b) (omega arith)

  parts_few : (row : ℕ) → (parts_in (literal_form (literal_at T.literals row))).first + (parts_in (literal_form (literal_at T.literals row))).count ≤ most_literals
  unfolding literal_form
  parts_few row = go (dec_le (literal_count T) row)
    where
      go : Dec (literal_count T ≤ row)
          → (parts_in (literal_form (literal_at T.literals row))).first + (parts_in (literal_form (literal_at T.literals row))).count ≤ most_literals
      go (yes l) = rw (literal_past row l) (omega arith)
      go (no l) =
          let w = parts_there T.pool (name_count T) (literal_count T) row (literal_at T.literals row)
          (and_right (is_row (name_count T) (literal_key T.literals row)) (literal_lawful T.pool (name_count T) (literal_count T) row (literal_at T.literals row))
          (literal_row_lem T h row (omega arith))) in
          omega (arith, few_literals T h)

  pub parted : Parted T.literals
  parted = record { lists = λ row rows e. rw e at (parts_few row); objects = λ row rows e. rw e at (parts_few row) }

  fields_few : (type : ℕ) → (type_at T.types type).fields.first + (type_at T.types type).fields.count ≤ most_fields
  fields_few type = go (dec_le (type_count T) type)
    where
      go : Dec (type_count T ≤ type) → (type_at T.types type).fields.first + (type_at T.types type).fields.count ≤ most_fields
      go (yes l) = fields_past type l
      go (no l) =
          let def : TypeDef = type_at T.types type in
          let w = leb-true (def.fields.first + def.fields.count) (field_count T)
          (and_left (within (field_count T) def.fields) (within (member_count T) def.members)
          (and_right (is_row (name_count T) def.name) (within (field_count T) def.fields && within (member_count T) def.members)
          (type_row_lem T h type (omega arith)))) in
          omega (arith, few_fields T h)

  -- with room for as many containers as there are nodes from a row on
  value_there : (pool : List ℕ) (room row : ℕ) → node_count T ≤ row + room → Valued (node_value pool T.nodes (suc room) row)
  unfolding node_value value_of
  value_there pool zero row l = rw (node_past row (omega arith)) (value_pure _)
  value_there pool (suc room) row l = go (dec_le (node_count T) row) (λ part m. value_there pool room part (omega arith))
    where
      go : Dec (node_count T ≤ row) → ((part : ℕ) → row < part → Valued (node_value pool T.nodes (suc room) part))
          → Valued (node_value pool T.nodes (suc (suc room)) row)
      go (yes m) below = rw (node_past row m) (value_pure _)
      go (no m) below =
          node_valued pool T.nodes (suc room) (λ part. node_value pool T.nodes (suc room) part) T.pool (node_count T) row below (node_at T.nodes row)
          (node_row_lem T h row (omega arith))

  -- each node has a value, a variable's among them
  pub valued : (pool : List ℕ) (row : ℕ) → Valued (node_value pool T.nodes (suc (node_count T)) row)
  valued pool row = value_there pool (node_count T) row (omega arith)

  valuable : Valuable T.nodes T.variables
  unfolding variable_value
  valuable = record { values = λ pool v. valued pool (variable_at T.variables v).node }

  pub coercible : Coercible T.types T.nodes T.literals T.variables
  coercible = record { parted = parted; valuable = valuable; few = fields_few }
