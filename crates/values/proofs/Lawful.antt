-- In lawful tables the parts of a container are rows that are there, and a row that is not there is null. Assumes nothing.
use mathlib.Core.Path.{◌≡◌, sym, ◌∙◌}
use mathlib.Core.Bool.{Bool, true, false, ◌||◌}
use mathlib.Core.List.{List}
use Rattle.std.specs.Prelude.{Some}
use Prim.Native.Nat.{ℕ, ◌+◌, ◌*◌, ◌≤◌}
use native.Mathlib.Decide.{dec_le}
use native.Mathlib.Omega.{arith}
use lib.Dec.{eqb, ltb}
use lib.ListN.{length, get_or-eq_default}
use borrow.Author.Tests.{leb-true}
use Rattle.rows.specs.Limits.{most_nodes, most_literals, most_rows}
use Rattle.rows.specs.Rows.{rows_of, cell}
use Rattle.rows.specs.Json.{node_at, literal_at}
use Rattle.rows.specs.declared.layout.Range.{Range}
use Rattle.rows.specs.declared.json.Node.{Node}
use Rattle.rows.specs.declared.json.Node.TheVariants as node
use Rattle.rows.specs.declared.json.Literal.{Literal}
use Rattle.rows.specs.declared.json.Literal.TheVariants as literal
use Rattle.rows.proofs.Every.{and_right}
use Rattle.rules.specs.Rows.{later, within, counted}
use Rattle.rules.specs.Json.{node_lawful}
use Rattle.tables.specs.Tables.{Tables, node_count, literal_count}
use Rattle.tables.specs.Marking.{parts_later}
use Rattle.tables.specs.Lawful.{lawful}
use Rattle.tables.proofs.Facts.{whole, at_most, rows_lawful_lem, nodes_counted, few_nodes, node_row_lem, literals_counted, few_literals, nested}
use Rattle.values.specs.Put.{shape_of, Parted}
use Rattle.values.specs.Literals.{LiteralsParted}
use Rattle.values.specs.declared.node.Parts.{Parts}
use Rattle.values.proofs.Nodes.{container_node, shape_container}

later_within : (count row : ℕ) (rows : Range) → later count row rows ≡ true → rows.first + rows.count ≤ count
later_within count row rows e =
    leb-true (rows.first + rows.count) count (and_right (eqb rows.count 0 || ltb row rows.first) (within count rows) e)

-- a container that obeys the rule on nodes
parts_there : (pool : List ℕ) (count row : ℕ) (n : Node) (parts : Parts) → node_lawful pool count row n ≡ true → shape_of n ≡ Some parts
    → parts.rows.first + parts.rows.count ≤ count
unfolding container_node
parts_there pool count row n parts h e = go parts.keyed parts.rows (rw (shape_container n parts e) at h)
  where
    go : (k : Bool) (range : Range) → node_lawful pool count row (container_node k range) ≡ true → range.first + range.count ≤ count
    go false range h = later_within count row range h
    go true range h = later_within count row range h

-- a row that is not there stands past the table's end, where words are 0
past : (most : ℕ) (t : List ℕ) → counted 5 0 most t ≡ true → (row : ℕ) → most ≤ most_rows → rows_of t 5 ≤ row → cell t 5 row 0 ≡ 0
unfolding cell rows_of
past most t h row few l =
    let w = whole 5 0 most t h in
    let m = at_most 5 0 most t h in
    let e : length t ≤ row * 5 + 0 = omega arith in
    get_or-eq_default t 0 {n = row * 5 + 0} e

module _ (T : Tables) (h : lawful T ≡ true) where
  past_null : (row : ℕ) → node_count T ≤ row → node_at T.nodes row ≡ node.Null
  unfolding node_at
  past_null row l = rw (past most_nodes T.nodes (nodes_counted T h) row (omega arith) l)

  pub parted : Parted T.nodes
  parted = record { within = λ row parts e. go row parts e (dec_le (node_count T) row) }
    where
      go : (row : ℕ) (parts : Parts) → shape_of (node_at T.nodes row) ≡ Some parts → Dec (node_count T ≤ row)
          → parts.rows.first + parts.rows.count ≤ most_nodes
      go row parts e (yes l) = let w = rw (past_null row l) at e in absurd (let z : ◌≡◌ {A = ℕ} 0 1 = cc in omega arith)
      go row parts e (no l) =
          let w = parts_there T.pool (node_count T) row (node_at T.nodes row) parts (node_row_lem T h row (omega arith)) e in
          omega (arith, few_nodes T h)

  past_null_literal : (row : ℕ) → literal_count T ≤ row → literal_at T.literals row ≡ literal.Null
  unfolding literal_at
  past_null_literal row l = rw (past most_literals T.literals (literals_counted T h) row (omega arith) l)

  -- a literal whose parts come later, where it is there, and that is not null
  later_literal : (row : ℕ) (rows : Range) (l : Literal) → literal_at T.literals row ≡ l → (l ≡ literal.Null → ⊥)
      → (parts_later (literal_count T) row l ≡ true → rows.first + rows.count ≤ literal_count T) → rows.first + rows.count ≤ most_literals
  later_literal row rows l e some k = go (dec_le (literal_count T) row)
    where
      go : Dec (literal_count T ≤ row) → rows.first + rows.count ≤ most_literals
      go (yes p) = absurd (some (sym e ∙ past_null_literal row p))
      go (no p) = let w = k (rw e at ((nested T (rows_lawful_lem T h)).parts row (omega arith))) in omega (arith, few_literals T h)

  pub literals_parted : LiteralsParted T.literals
  literals_parted = record {
    of_list = λ row rows e.
        later_literal row rows (literal.List rows) e (λ z. let q : ◌≡◌ {A = ℕ} 0 1 = cc in omega arith)
        (λ w. later_within (literal_count T) row rows w);
    of_object = λ row rows e.
        later_literal row rows (literal.Object rows) e (λ z. let q : ◌≡◌ {A = ℕ} 0 1 = cc in omega arith)
        (λ w. later_within (literal_count T) row rows w);
  }
