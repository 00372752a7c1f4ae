-- In lawful tables the names of a field's arguments differ. Assumes nothing.
use mathlib.Core.Path.{◌≡◌, sym}
use mathlib.Core.Bool.{true, not}
use Prim.Native.Nat.{ℕ, ◌+◌, ◌-◌, ◌≤◌, ◌<◌}
use native.Mathlib.Omega.{arith}
use borrow.Author.Tests.{eq-eqb}
use Rattle.rows.specs.Layout.{argument_width}
use Rattle.rows.specs.Schema.{field_at, argument_at}
use Rattle.rows.specs.declared.layout.Range.{Range}
use Rattle.rows.proofs.Every.{all_at}
use Rattle.rules.specs.Rows.{other, is_new, distinct}
use Rattle.tables.specs.Tables.{Tables, field_count}
use Rattle.tables.specs.Lawful.{lawful}
use Rattle.tables.proofs.Facts.{argument_names_differ}
use Rattle.echoing.specs.Source.{ArgumentsDiffer}

module _ (T : Tables) (h : lawful T ≡ true) where
  pub arguments_differ_lem : (field : ℕ) → field < field_count T → ArgumentsDiffer T.arguments (field_at T.fields field).arguments
  unfolding argument_at distinct is_new
  arguments_differ_lem field l = record {
    differ = λ a b m n o e. go (field_at T.fields field).arguments
        (argument_names_differ T h field l) a b m n o e;
  }
    where
      go : (rows : Range) → distinct T.arguments argument_width 0 rows ≡ true → (a b : ℕ) → rows.first ≤ a → a < b
          → b < rows.first + rows.count → (argument_at T.arguments a).name ≡ (argument_at T.arguments b).name → ⊥
      go rows d a b m n o e =
          let u = all_at (is_new T.arguments argument_width 0 rows.first) (b - rows.first) rows.count (omega arith) d in
          let v = all_at (λ j. other T.arguments argument_width 0 (rows.first + (b - rows.first)) (rows.first + j))
          (a - rows.first) (b - rows.first) (omega arith) u in
          let s : rows.first + (b - rows.first) ≡ b = omega arith in
          let t : rows.first + (a - rows.first) ≡ a = omega arith in
          let w = rw (s, t) at v in
          let z = eq-eqb (argument_at T.arguments b).name (argument_at T.arguments a).name (sym e) in
          let y : not true ≡ true = rw z at w in
          absurd (let x : ◌≡◌ {A = ℕ} 0 1 = cc in omega arith)
