-- Why a selection need not be looked at again in a smaller set. Assumes nothing.
use mathlib.Core.Path.{◌≡◌, refl, sym, ◌∙◌}
use mathlib.Core.Bool.{Bool, true, false, not}
use mathlib.Core.List.{List}
use Prim.Native.Nat.{ℕ, suc, ◌+◌, ◌-◌, ◌≤◌, ◌<◌}
use native.Mathlib.Decide.{dec_le}
use native.Mathlib.Omega.{arith}
use borrow.Author.Tests.{ltb-true, lt-ltb}
use lib.ListN.{length, get_or, set, length-set, replicate, length-replicate, get_or-replicate, get_or-eq_default}
use lib.Seq.{get_or-set_same, get_or-set_other}
use Rattle.rows.specs.Limits.{most_selections}
use Rattle.rules.specs.Document.{owned_set, larger_than, child_larger, children_larger}
use Rattle.tables.specs.ByTable.{Skips, LargerUpTo}
use Rattle.rows.specs.declared.layout.Range.{Range}
use Rattle.std.specs.Prelude.{Option, Some, None}
use Rattle.rows.proofs.Every.{all_each, all_broken}

smaller_set : (s t : ℕ) (owned : Option ℕ) → s ≤ t → larger_than t owned ≡ true → larger_than s owned ≡ true
smaller_set s t None h e = refl
smaller_set s t (Some child) h e = lt-ltb s child (omega (arith, ltb-true t child e))

abbrev fresh : List ℕ
fresh = replicate 2049 0

zeros : (i : ℕ) → get_or fresh i 0 ≡ 0
zeros i = go (dec_le (suc i) 2049)
  where
    go : Dec (suc i ≤ 2049) → get_or fresh i 0 ≡ 0
    go (yes l) = get_or-replicate {A = ℕ} 2049 i 0 0 l
    go (no l) =
        let size : length fresh ≡ 2049 = length-replicate {A = ℕ} 2049 0 in
        let past : length fresh ≤ i = omega arith in
        get_or-eq_default fresh 0 past

module _ (selections : List ℕ) where
  -- nothing was looked at
  pub skips_none : (s : ℕ) → Skips selections s fresh
  skips_none s = record {
    room = length-replicate {A = ℕ} 2049 0;
    low = λ i. omega (arith, zeros i);
    ahead = λ i h. absurd (omega (arith, zeros i));
    larger = λ i j l m. absurd (omega (arith, zeros i));
  }

  -- what is known of a set is known of a smaller one
  pub skips_smaller : (s t : ℕ) (skips : List ℕ) → s ≤ t → Skips selections t skips → Skips selections s skips
  skips_smaller s t skips h k = record {
    room = k.room;
    low = k.low;
    ahead = k.ahead;
    larger = λ i j l m. smaller_set s t (owned_set selections j) h (k.larger i j l m);
  }

  module _ (s : ℕ) (skips : List ℕ) (k : Skips selections s skips) where
    -- a longer way from a row, all of which is known
    pub skips_set : (row to : ℕ) → row < to → to ≤ most_selections → ((j : ℕ) → row ≤ j → j < to → child_larger selections s j ≡ true)
        → Skips selections s (set skips row to)
    skips_set row to a h known = record {
      room = length-set skips row to ∙ k.room;
      low = λ i. low i (dec_le (suc i) row) (dec_le (suc row) i);
      ahead = λ i p. ahead i p (dec_le (suc i) row) (dec_le (suc row) i);
      larger = λ i j l m. larger i j l m (dec_le (suc i) row) (dec_le (suc row) i);
    }
      where
        here : (i : ℕ) → (suc i ≤ row → ⊥) → (suc row ≤ i → ⊥) → get_or (set skips row to) i 0 ≡ to
        here i x y =
            let e : row ≡ i = omega arith in
            let there : row < length skips = omega (arith, k.room) in
            rw (← e) (get_or-set_same skips row to 0 there)

        other : (i : ℕ) → (i ≡ row → ⊥) → get_or (set skips row to) i 0 ≡ get_or skips i 0
        other i n = get_or-set_other skips row i to 0 n

        low : (i : ℕ) → Dec (suc i ≤ row) → Dec (suc row ≤ i) → get_or (set skips row to) i 0 ≤ most_selections
        low i (yes x) d = omega (arith, other i (λ e. omega arith), k.low i)
        low i (no x) (yes y) = omega (arith, other i (λ e. omega arith), k.low i)
        low i (no x) (no y) = omega (arith, here i x y)

        ahead : (i : ℕ) → 0 < get_or (set skips row to) i 0 → Dec (suc i ≤ row) → Dec (suc row ≤ i) → i < get_or (set skips row to) i 0
        ahead i p (yes x) d = rw (other i (λ e. omega arith)) (k.ahead i (rw (other i (λ e. omega arith)) at p))
        ahead i p (no x) (yes y) = rw (other i (λ e. omega arith)) (k.ahead i (rw (other i (λ e. omega arith)) at p))
        ahead i p (no x) (no y) = omega (arith, here i x y)

        larger : (i j : ℕ) → i ≤ j → j < get_or (set skips row to) i 0 → Dec (suc i ≤ row) → Dec (suc row ≤ i) → child_larger selections s j ≡ true
        larger i j l m (yes x) d = k.larger i j l (rw (other i (λ e. omega arith)) at m)
        larger i j l m (no x) (yes y) = k.larger i j l (rw (other i (λ e. omega arith)) at m)
        larger i j l m (no x) (no y) = known j (omega arith) (omega (arith, here i x y))

    -- two ways one behind the other are such a way
    pub skips_double : (row : ℕ) → (get_or skips row 0 ≡ 0 → ⊥) → (get_or skips (get_or skips row 0) 0 ≡ 0 → ⊥)
        → Skips selections s (set skips row (get_or skips (get_or skips row 0) 0))
    skips_double row n m =
        let next = get_or skips row 0 in
        skips_set row (get_or skips next 0) (omega (arith, k.ahead row (omega arith), k.ahead next (omega arith))) (k.low next)
        (λ j l h. known j l h (dec_le (suc j) next))
      where
        known : (j : ℕ) → row ≤ j → j < get_or skips (get_or skips row 0) 0 → Dec (suc j ≤ get_or skips row 0) → child_larger selections s j ≡ true
        known j l h (yes x) = k.larger row j l x
        known j l h (no x) = k.larger (get_or skips row 0) j (omega arith) h

    -- one way more is known, too
    pub larger_on : (from row : ℕ) → LargerUpTo selections s from row → (get_or skips row 0 ≡ 0 → ⊥) → LargerUpTo selections s from (get_or skips row 0)
    larger_on from row u n = record {
      low = omega (arith, u.low, k.ahead row (omega arith));
      high = k.low row;
      larger = λ j l h. known j l h (dec_le (suc j) row);
    }
      where
        known : (j : ℕ) → from ≤ j → j < get_or skips row 0 → Dec (suc j ≤ row) → child_larger selections s j ≡ true
        known j l h (yes x) = u.larger j l x
        known j l h (no x) = k.larger row j (omega arith) h

  -- of no row
  pub larger_none : (s from : ℕ) → from ≤ most_selections → LargerUpTo selections s from from
  larger_none s from h = record { low = omega arith; high = h; larger = λ j l m. absurd (omega arith) }

  -- one more, and what comes after it
  pub larger_more : (s from row to : ℕ) → LargerUpTo selections s from row → child_larger selections s row ≡ true
      → LargerUpTo selections s (row + 1) to → LargerUpTo selections s from to
  larger_more s from row to u e v = record {
    low = omega (arith, u.low, v.low);
    high = v.high;
    larger = λ j l h. known j l h (dec_le (suc j) row) (dec_le (suc row) j);
  }
    where
      known : (j : ℕ) → from ≤ j → j < to → Dec (suc j ≤ row) → Dec (suc row ≤ j) → child_larger selections s j ≡ true
      known j l h (yes x) d = u.larger j l x
      known j l h (no x) (yes y) = v.larger j (omega arith) h
      known j l h (no x) (no y) = let same : row ≡ j = omega arith in rw (← same) e

  module _ (s : ℕ) (rows : Range) (row : ℕ) where
    -- all of a range
    pub larger_all : LargerUpTo selections s rows.first row → rows.first + rows.count ≤ row → true ≡ children_larger selections s rows
    unfolding children_larger
    larger_all u h =
        sym (all_each (λ i. child_larger selections s (rows.first + i)) rows.count (λ i l. u.larger (rows.first + i) (omega arith) (omega arith)))

    -- one of a range is not larger
    pub larger_broken : (r : Bool) → rows.first ≤ row → row < rows.first + rows.count → r ≡ child_larger selections s row → not r ≡ true
        → false ≡ children_larger selections s rows
    unfolding children_larger
    larger_broken r l h e n =
        let there : rows.first + (row - rows.first) ≡ row = omega arith in
        all_broken (λ i. child_larger selections s (rows.first + i)) (row - rows.first) rows.count r (omega arith) (rw there e) n
