-- Why the runs, kept from the last row on, find every variable inside a literal: its parts come later, so their runs are kept before it,
-- and no chain of parts is longer than there are rows. Assumes nothing.
use mathlib.Core.Path.{◌≡◌, refl, sym, ap₂, subst, subst⁻¹, ◌∙◌}
use mathlib.Core.Bool.{Bool, true, false, ◌&&◌, ◌||◌, cond}
use mathlib.Core.List.{List}
use Prim.Native.Nat.{ℕ, zero, suc, ◌+◌, ◌-◌, ◌≤◌, ◌<◌}
use native.Mathlib.Decide.{dec_le}
use native.Mathlib.Omega.{arith}
use borrow.Author.Tests.{ltb-true, leb-true, le-leb, lt-leb, eqb-true, ne_eqb}
use lib.ListN.{get_or, set, length-set, replicate, length-replicate, get_or-replicate}
use lib.Seq.{get_or-set_same, get_or-set_other}
use lib.Dec.{ltb, leb, eqb}
use Rattle.rows.specs.Layout.{field_width, argument_width, literal_width}
use Rattle.rows.specs.Limits.{most_literals}
use Rattle.rows.specs.Rows.{all, rows_of}
use Rattle.rows.specs.Schema.{field_at, argument_at}
use Rattle.rows.specs.Json.{literal_of, literal_at}
use Rattle.rules.specs.Rows.{row_or_none}
use Rattle.tables.specs.Defaults.{each_of, closed_but, closed_to, closed, default_closed, field_default, argument_default, defaults_closed}
use Rattle.tables.specs.Marking.{run, in_run, closed_in, Marked, parts_later, Nested, Defaulted, default_unmarked, row_unmarked}
use Rattle.rows.specs.declared.layout.Range.{Range}
use Rattle.std.specs.Prelude.{Option, Some, None}
use Rattle.rows.specs.declared.json.Literal.{Literal}
use Rattle.rows.specs.declared.json.Literal.TheVariants as literal
use Rattle.rows.proofs.Every.{all_none, all_same, all_broken, and_left, and_right, or_right}

longer : (n behind : ℕ) → leb (suc n) (behind + 1) ≡ leb n behind
longer n behind = go (dec_le n behind)
  where
    go : Dec (n ≤ behind) → leb (suc n) (behind + 1) ≡ leb n behind
    go (yes h) = rw (le-leb n behind h) (le-leb (suc n) (behind + 1) (omega arith))
    go (no h) = rw (lt-leb n behind (omega arith)) (lt-leb (suc n) (behind + 1) (omega arith))

-- none of no rows, one row, and one more at the front
module _ (p : ℕ → Bool) (row : ℕ) where
  of_none : (behind : ℕ) → leb 0 behind ≡ all (λ i. p (row + i)) 0
  of_none behind = le-leb 0 behind (omega arith) ∙ sym (all_none (λ i. p (row + i)))

  of_one : all (λ i. p (row + i)) 1 ≡ p row
  unfolding all
  of_one = let e : row + 0 ≡ row = omega arith in rw e

  at_front : p row ≡ true → (n : ℕ) → all (λ i. p (suc row + i)) n ≡ all (λ i. p (row + i)) (suc n)
  unfolding all
  at_front h zero = sym (of_one ∙ h)
  at_front h (suc n) = let e : suc row + n ≡ row + suc n = omega arith in rw (e, at_front h n)

-- only lists, objects and variables are looked at
module _ (runs : List ℕ) where
  either : (b : Bool) (x y : Literal) → closed_in runs x ≡ true → closed_in runs y ≡ true → closed_in runs (cond b x y) ≡ true
  either true x y e f = e
  either false x y e f = f

  -- a literal of another kind is closed, whatever the runs are
  pub no_parts : (kind a b : ℕ) → (kind ≡ 7 → ⊥) → (kind ≡ 8 → ⊥) → (kind ≡ 10 → ⊥) → true ≡ closed_in runs (literal_of kind a b)
  no_parts kind a b l o v =
      rw (ne_eqb kind 7 l, ne_eqb kind 8 o, ne_eqb kind 10 v)
      (sym
      (either (eqb kind 0) _ _ refl (either (eqb kind 1) _ _ refl (either (eqb kind 2) _ _ refl (either (eqb kind 3) _ _ refl
      (either (eqb kind 4) _ _ refl (either (eqb kind 5) _ _ refl (either (eqb kind 6) _ _ refl (either (eqb kind 9) _ _ refl refl)))))))))

module _ (literals : List ℕ) (nested : Nested literals) where
  abbrev count : ℕ
  count = rows_of literals literal_width

  -- two tests that agree on the rows of a later range agree on the range
  each_same : (p q : ℕ → Bool) (row : ℕ) (rows : Range)
      → ((eqb rows.count 0 || ltb row rows.first) && leb (rows.first + rows.count) count) ≡ true
      → ((k : ℕ) → row < k → k < count → p k ≡ q k) → each_of p rows ≡ each_of q rows
  each_same p q row rows l h =
      let later = and_left (eqb rows.count 0 || ltb row rows.first) (leb (rows.first + rows.count) count) l in
      let end : rows.first + rows.count ≤ count =
      leb-true (rows.first + rows.count) count (and_right (eqb rows.count 0 || ltb row rows.first) (leb (rows.first + rows.count) count) l) in
      all_same (λ i. p (rows.first + i)) (λ i. q (rows.first + i)) rows.count
      (λ i m. let first : row < rows.first = later_first later (omega arith) in h (rows.first + i) (omega arith) (omega arith))
    where
      later_first : (eqb rows.count 0 || ltb row rows.first) ≡ true → (rows.count ≡ 0 → ⊥) → row < rows.first
      later_first e n = ltb-true row rows.first (or_right (eqb rows.count 0) (ltb row rows.first) e (ne_eqb rows.count 0 n))

  -- two tests that agree on all later rows agree on the parts of a literal
  parts_same : (p q : ℕ → Bool) (row : ℕ) (l : Literal) → parts_later count row l ≡ true
      → ((k : ℕ) → row < k → k < count → p k ≡ q k) → closed_but p l ≡ closed_but q l
  parts_same p q row literal.Null e h = refl
  parts_same p q row literal.False e h = refl
  parts_same p q row literal.True e h = refl
  parts_same p q row (literal.Natural n) e h = refl
  parts_same p q row (literal.Negative m) e h = refl
  parts_same p q row (literal.Float text) e h = refl
  parts_same p q row (literal.String text) e h = refl
  parts_same p q row (literal.List rows) e h = each_same p q row rows e h
  parts_same p q row (literal.Object rows) e h = each_same p q row rows e h
  parts_same p q row (literal.Enum name) e h = refl
  parts_same p q row (literal.Variable name) e h = refl
  parts_same p q row literal.Unknown e h = refl

  -- deep enough is deep enough
  deep_enough : (d e row : ℕ) → row < count → count ≤ row + d → count ≤ row + e → closed_to literals d row ≡ closed_to literals e row
  unfolding closed_to
  deep_enough zero e row h m n = absurd (omega arith)
  deep_enough (suc d) zero row h m n = absurd (omega arith)
  deep_enough (suc d) (suc e) row h m n =
      parts_same (closed_to literals d) (closed_to literals e) row (literal_at literals row) (nested.parts row h)
      (λ k l j. deep_enough d e k j (omega arith) (omega arith))

  one_more : (row : ℕ) → closed_but (closed_to literals count) (literal_at literals row) ≡ closed_to literals (suc count) row
  unfolding closed_to
  one_more row = refl

  -- the parts of a literal, by the runs behind it
  parts_in : (runs : List ℕ) (row : ℕ) (rows : Range) → ((eqb rows.count 0 || ltb row rows.first) && leb (rows.first + rows.count) count) ≡ true
      → Marked literals runs (suc row) → in_run runs rows ≡ each_of (closed literals) rows
  parts_in runs row rows l m = go (eqb rows.count 0) refl
    where
      go : (b : Bool) → eqb rows.count 0 ≡ b → in_run runs rows ≡ each_of (closed literals) rows
      go true e = rw (eqb-true rows.count 0 e) (of_none (closed literals) rows.first (get_or runs rows.first 0))
      go false e =
          let end : rows.first + rows.count ≤ count =
          leb-true (rows.first + rows.count) count (and_right (eqb rows.count 0 || ltb row rows.first) (leb (rows.first + rows.count) count) l) in
          m.right rows
          (ltb-true row rows.first
          (or_right (eqb rows.count 0) (ltb row rows.first)
          (and_left (eqb rows.count 0 || ltb row rows.first) (leb (rows.first + rows.count) count) l) e))
          end

  closed_in_lem : (runs : List ℕ) (row : ℕ) (l : Literal) → parts_later count row l ≡ true → Marked literals runs (suc row)
      → closed_in runs l ≡ closed_but (closed literals) l
  closed_in_lem runs row literal.Null e m = refl
  closed_in_lem runs row literal.False e m = refl
  closed_in_lem runs row literal.True e m = refl
  closed_in_lem runs row (literal.Natural n) e m = refl
  closed_in_lem runs row (literal.Negative k) e m = refl
  closed_in_lem runs row (literal.Float text) e m = refl
  closed_in_lem runs row (literal.String text) e m = refl
  closed_in_lem runs row (literal.List rows) e m = parts_in runs row rows e m
  closed_in_lem runs row (literal.Object rows) e m = parts_in runs row rows e m
  closed_in_lem runs row (literal.Enum name) e m = refl
  closed_in_lem runs row (literal.Variable name) e m = refl
  closed_in_lem runs row literal.Unknown e m = refl

  row_closed : (runs : List ℕ) (row : ℕ) → row < count → Marked literals runs (suc row) → closed_in runs (literal_at literals row) ≡ closed literals row
  row_closed runs row h m =
      closed_in_lem runs row (literal_at literals row) (nested.parts row h) m
      ∙ (one_more row ∙ deep_enough (suc count) count row h (omega arith) (omega arith))

  -- the run that begins at a row
  run_here : (runs : List ℕ) (row n : ℕ) → row + n ≤ count → Marked literals runs (suc row) → (c : Bool) → closed literals row ≡ c
      → leb n (run c (get_or runs (suc row) 0)) ≡ all (λ i. closed literals (row + i)) n
  run_here runs row zero h m c e = of_none (closed literals) row (run c (get_or runs (suc row) 0))
  run_here runs row (suc n) h m true e =
      longer n (get_or runs (suc row) 0)
      ∙ (m.right (record { first = suc row; count = n }) (omega arith) (omega arith) ∙ at_front (closed literals) row e n)
  run_here runs row (suc n) h m false e =
      let s : row + 0 ≡ row = omega arith in
      lt-leb (suc n) 0 (omega arith) ∙ all_broken (λ i. closed literals (row + i)) 0 (suc n) false (omega arith) (rw s (sym e)) refl

  low_here : (runs : List ℕ) (row : ℕ) → row < most_literals → Marked literals runs (suc row) → (c : Bool) → row + run c (get_or runs (suc row) 0) ≤ most_literals
  low_here runs row h m true = omega (arith, m.low (suc row) (omega arith) (omega arith))
  low_here runs row h m false = omega arith

  abbrev kept : List ℕ → ℕ → ℕ
  kept runs row = run (closed literals row) (get_or runs (suc row) 0)

  -- one row more
  mark_more : (runs : List ℕ) (row : ℕ) → row < count → Marked literals runs (suc row)
      → Marked literals (set runs row (run (closed_in runs (literal_at literals row)) (get_or runs (suc row) 0))) row
  mark_more runs row h m =
      rw (row_closed runs row h m)
      (record {
        size = length-set runs row _ ∙ m.size;
        low = λ k l j. low k l j (dec_le (suc row) k);
        right = λ rows l j. right rows l j (dec_le (suc row) rows.first);
      })
    where
      same : get_or (set runs row (kept runs row)) row 0 ≡ kept runs row
      same = get_or-set_same runs row (kept runs row) 0 (omega (arith, m.size, nested.few))

      low : (k : ℕ) → row ≤ k → k ≤ most_literals → Dec (suc row ≤ k) → k + get_or (set runs row (kept runs row)) k 0 ≤ most_literals
      low k l j (yes s) = rw (get_or-set_other runs row k (kept runs row) 0 (λ e. omega arith)) (m.low k s j)
      low k l j (no s) =
          let e : k ≡ row = omega arith in rw (e, same) (low_here runs row (omega (arith, nested.few)) m (closed literals row))

      right : (rows : Range) → row ≤ rows.first → rows.first + rows.count ≤ count → Dec (suc row ≤ rows.first)
          → in_run (set runs row (kept runs row)) rows ≡ each_of (closed literals) rows
      right rows l j (yes s) = rw (get_or-set_other runs row rows.first (kept runs row) 0 (λ e. omega arith)) (m.right rows s j)
      right rows l j (no s) =
          let e : rows.first ≡ row = omega arith in
          rw (e, same) (run_here runs row rows.count (omega arith) m (closed literals row) refl)

  -- no row yet
  pub mark_none : Marked literals (replicate (most_literals + 1) 0) count
  mark_none = record {
    size = length-replicate {A = ℕ} (most_literals + 1) 0;
    low = λ row l j. rw (get_or-replicate {A = ℕ} (most_literals + 1) row 0 0 (omega arith)) (omega arith);
    right = λ rows l j.
        let e : rows.count ≡ 0 = omega arith in rw e (of_none (closed literals) rows.first (get_or (replicate (most_literals + 1) 0) rows.first 0));
  }

  -- one turn, from a row down to the one before it
  pub mark_turn : (runs runs' : List ℕ) (row : ℕ) → 0 < row → row ≤ count → Marked literals runs row
      → runs' ≡ set runs (row - 1) (run (closed_in runs (literal_at literals (row - 1))) (get_or runs (row - 1 + 1) 0)) → Marked literals runs' (row - 1)
  mark_turn runs runs' row p h m e =
      let s : row ≡ suc (row - 1) = omega arith in
      let t : row - 1 + 1 ≡ suc (row - 1) = omega arith in
      subst⁻¹ (λ (l : List ℕ). Marked literals l (row - 1)) (rw t at e)
      (mark_more runs (row - 1) (omega arith) (subst (λ (k : ℕ). Marked literals runs k) s m))

-- all rows are marked
pub mark_end : (literals runs : List ℕ) (row : ℕ) → row ≤ 0 → Marked literals runs row → Marked literals runs 0
mark_end literals runs row h m = let e : row ≡ 0 = omega arith in rw e at m

-- a default is closed as its run says
pub default_closed_lem : (literals runs : List ℕ) (d : Option ℕ) → Marked literals runs 0 → row_or_none (rows_of literals literal_width) d ≡ true
    → default_unmarked runs d ≡ default_closed literals d
default_closed_lem literals runs None m e = refl
default_closed_lem literals runs (Some row) m e =
    let h : row < rows_of literals literal_width = ltb-true row _ e in
    m.right (record { first = row; count = 1 }) (omega arith) (omega arith) ∙ of_one (closed literals) row

-- the defaults are closed as the runs say
pub defaults_closed_lem : (fields arguments literals runs : List ℕ) → Defaulted fields arguments literals → Marked literals runs 0
    → (all (row_unmarked fields field_width 2 runs) (rows_of fields field_width) && all (row_unmarked arguments argument_width 2 runs) (rows_of arguments argument_width))
    ≡ defaults_closed fields arguments literals
unfolding defaults_closed field_at argument_at
defaults_closed_lem fields arguments literals runs d m =
    ap₂ ◌&&◌
    (all_same (row_unmarked fields field_width 2 runs) (field_default fields literals) (rows_of fields field_width)
    (λ row h. default_closed_lem literals runs (field_at fields row).default m (d.of_fields row h)))
    (all_same (row_unmarked arguments argument_width 2 runs) (argument_default arguments literals) (rows_of arguments argument_width)
    (λ row h. default_closed_lem literals runs (argument_at arguments row).default m (d.of_arguments row h)))
