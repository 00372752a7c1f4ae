-- In lawful tables the selections of a set are few. Assumes nothing.
use mathlib.Core.Path.{◌≡◌}
use mathlib.Core.Bool.{true}
use Prim.Native.Nat.{ℕ, ◌+◌, ◌*◌, ◌≤◌, ◌<◌}
use native.Mathlib.Decide.{dec_le}
use native.Mathlib.Omega.{arith}
use lib.ListN.{length, get_or-eq_default}
use borrow.Author.Tests.{leb-true}
use Rattle.rows.specs.Limits.{most_selections}
use Rattle.rows.specs.Rows.{cell}
use Rattle.rows.specs.Document.{set_at}
use Rattle.tables.specs.Tables.{Tables, set_count, selection_count}
use Rattle.tables.specs.Lawful.{lawful}
use Rattle.tables.proofs.Facts.{few_selections, set_row_lem, sets_end}

module _ (T : Tables) (h : lawful T ≡ true) where
  -- a set that is there has its selections there; one that is not has none
  range_there : (set : ℕ) → set < set_count T → (set_at T.sets set).first + (set_at T.sets set).count ≤ most_selections
  range_there set l =
      let r = leb-true ((set_at T.sets set).first + (set_at T.sets set).count) (selection_count T) (set_row_lem T h set l) in
      omega (arith, few_selections T h)

  range_past : (set : ℕ) → set_count T ≤ set → (set_at T.sets set).first + (set_at T.sets set).count ≤ most_selections
  unfolding set_at cell
  range_past set l =
      let a : length T.sets ≤ set * 2 + 0 = omega (arith, sets_end T h set l) in
      let b : length T.sets ≤ set * 2 + 1 = omega (arith, sets_end T h set l) in
      rw (get_or-eq_default T.sets 0 {n = set * 2 + 0} a, get_or-eq_default T.sets 0 {n = set * 2 + 1} b) (omega arith)

  pub range_few : (set : ℕ) → (set_at T.sets set).first + (set_at T.sets set).count ≤ most_selections
  range_few set = go (dec_le (set_count T) set)
    where
      go : Dec (set_count T ≤ set) → (set_at T.sets set).first + (set_at T.sets set).count ≤ most_selections
      go (yes l) = range_past set l
      go (no l) = range_there set (omega arith)
