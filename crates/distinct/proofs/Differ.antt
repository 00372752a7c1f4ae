-- Why one number for each end answers for every range that ends there: the rows of a range that is longer at its start differ at most
-- where those of the shorter one do. Assumes nothing.
use mathlib.Core.Path.{◌≡◌, refl, sym, ◌∙◌}
use mathlib.Core.Bool.{Bool, true, false, ◌&&◌}
use mathlib.Core.List.{List}
use Prim.Native.Nat.{ℕ, suc, ◌+◌, ◌-◌, ◌≤◌, ◌<◌, max}
use native.Mathlib.Nat.{add-sub_cancel_left, zero-add, max-eq_left, max-eq_right}
use native.Mathlib.Decide.{dec_le}
use native.Mathlib.Numerals.{add-one}
use native.Mathlib.Omega.{arith}
use lib.Dec.{eqb, leb}
use lib.ListN.{length, get_or, set}
use lib.Seq.{get_or-set_same, get_or-set_other}
use borrow.Author.Tests.{eqb-true, eqb-false, leb-true, le-leb, lt-leb, eq-eqb, ne_eqb}
use Rattle.rows.specs.Rows.{all}
use Rattle.rows.proofs.Every.{all_none, all_broken, all_each, all_same}
use Rattle.distinct.specs.Differ.{is_other, differ, Since, AfterLast}

module _ (test : ℕ → Bool) where
  -- one row more that passes the test, and one that fails it
  pub after_pass : (from end r : ℕ) → AfterLast test from end r → test end ≡ true → AfterLast test from (end + 1) r
  after_pass from end r a e =
      record { low = a.low; high = omega (arith, a.high); others = λ j l m. go j l m (dec_le (suc j) end); last = a.last }
    where
      go : (j : ℕ) → r ≤ j → j < end + 1 → Dec (suc j ≤ end) → test j ≡ true
      go j l m (yes n) = a.others j l n
      go j l m (no n) = let s : j ≡ end = omega arith in rw s e

  pub after_fail : (end : ℕ) → test end ≡ false → AfterLast test 0 (end + 1) (end + 1)
  after_fail end e =
      let s : end + 1 - 1 ≡ end = omega arith in
      record { low = omega arith; high = omega arith; others = λ j l m. absurd (omega arith); last = λ h. rw s e }

  -- no row is looked at
  pub after_none : AfterLast test 0 0 0
  after_none = record { low = omega arith; high = omega arith; others = λ j l m. absurd (omega arith); last = λ h. absurd (omega arith) }

  -- what is found before a row counts as that row
  pub after_from : (from end r : ℕ) → AfterLast test 0 end r → from ≤ end → AfterLast test from end (max from r)
  after_from from end r a h = go (dec_le r from)
    where
      go : Dec (r ≤ from) → AfterLast test from end (max from r)
      go (yes n) =
          rw (max-eq_left n)
          (record { low = omega arith; high = h; others = λ j l m. a.others j (omega arith) m; last = λ k. absurd (omega arith) })
      go (no n) =
          let m : from ≤ r = omega arith in
          rw (max-eq_right m) (record { low = m; high = a.high; others = a.others; last = λ k. a.last (omega arith) })

zero_leb : (n : ℕ) → eqb n 0 ≡ leb n 0
zero_leb n = go (dec_le n 0)
  where
    go : Dec (n ≤ 0) → eqb n 0 ≡ leb n 0
    go (yes h) = rw (le-leb n 0 h) (eq-eqb n 0 (omega arith))
    go (no h) = rw (lt-leb n 0 (omega arith)) (ne_eqb n 0 (λ e. omega arith))

module _ (other : ℕ → ℕ → Bool) where
  differ_none : (first : ℕ) → differ other first 0 ≡ true
  unfolding differ
  differ_none first = all_none (is_other other first)

  differ_more : (first count : ℕ) → differ other first (count + 1) ≡ (differ other first count && is_other other first count)
  unfolding differ all
  differ_more first count = rw add-one

  differ_one : (first : ℕ) → differ other first 1 ≡ true
  unfolding differ is_other all
  differ_one first = refl

  -- fewer than two rows have no double
  pub differ_few : (first n : ℕ) → n < 2 → differ other first n ≡ true
  differ_few first n h = go (dec_le n 0)
    where
      go : Dec (n ≤ 0) → differ other first n ≡ true
      go (yes l) = let e : n ≡ 0 = omega arith in rw e (differ_none first)
      go (no l) = let e : n ≡ 1 = omega arith in rw e (differ_one first)

  -- no row has been looked at
  pub since_none : (since : List ℕ) → get_or since 0 0 ≡ 0 → Since other 0 since
  since_none since z = record { told = go }
    where
      go : (end first : ℕ) → end ≤ 0 → first ≤ end → differ other first (end - first) ≡ leb (get_or since end 0) first
      go end first l m =
          let e : end - first ≡ 0 = omega arith in
          let n : end ≡ 0 = omega arith in
          rw (e, differ_none first, n, z) (sym (le-leb 0 first (omega arith)))

  module _ (count : ℕ) (since : List ℕ) (h : Since other count since) where
    -- since when they differ is no later than the end
    pub since_low : get_or since count 0 ≤ count
    since_low =
        let e : count - count ≡ 0 = omega arith in
        leb-true (get_or since count 0) count (sym (h.told count count (omega arith) (omega arith)) ∙ (rw (e, differ_none count)))

    -- what the note on a range's end says of it
    pub since_range : (first n : ℕ) → first + n ≤ count → leb (get_or since (first + n) 0) first ≡ differ other first n
    since_range first n l = sym (rw add-sub_cancel_left at (h.told (first + n) first l (omega arith)))

    -- what the last note says of all rows
    pub since_all : eqb (get_or since count 0) 0 ≡ differ other 0 count
    since_all = zero_leb (get_or since count 0) ∙ (rw zero-add at (since_range 0 count (omega (arith, zero-add count))))

    -- the next row
    module _ (s : ℕ) (a : AfterLast (other count) (get_or since count 0) count s) where
      next_other : (first : ℕ) → first ≤ count → (leb (get_or since count 0) first && is_other other first (count - first)) ≡ leb s first
      unfolding is_other
      next_other first l = go (dec_le s first) (dec_le (get_or since count 0) first)
        where
          to : first + (count - first) ≡ count
          to = omega arith

          go : Dec (s ≤ first) → Dec (get_or since count 0 ≤ first)
              → (leb (get_or since count 0) first && is_other other first (count - first)) ≡ leb s first
          go (yes m) w =
              let low : get_or since count 0 ≤ first = omega (arith, a.low) in
              rw (le-leb (get_or since count 0) first low, le-leb s first m)
              (all_each (λ j. other (first + (count - first)) (first + j)) (count - first)
              (λ j k. rw to (a.others (first + j) (omega arith) (omega arith))))
          go (no m) (yes w) =
              let at : first + (s - 1 - first) ≡ s - 1 = omega arith in
              rw (le-leb (get_or since count 0) first w, lt-leb s first (omega arith))
              (sym (all_broken (λ j. other (first + (count - first)) (first + j)) (s - 1 - first) (count - first) false (omega (arith, a.high))
              (rw (to, at) (sym (a.last (omega arith)))) refl))
          go (no m) (no w) = rw (lt-leb (get_or since count 0) first (omega arith), lt-leb s first (omega (arith, a.low)))

      next_told : (first : ℕ) → first ≤ count + 1 → differ other first (count + 1 - first) ≡ leb s first
      next_told first l = go (dec_le first count)
        where
          go : Dec (first ≤ count) → differ other first (count + 1 - first) ≡ leb s first
          go (yes m) =
              let e : count + 1 - first ≡ count - first + 1 = omega arith in
              rw (e, differ_more first (count - first), h.told count first (omega arith) m) (next_other first m)
          go (no m) =
              let e : count + 1 - first ≡ 0 = omega arith in
              rw (e, differ_none first) (sym (le-leb s first (omega (arith, a.high))))

      pub since_one : count + 1 < length since → Since other (count + 1) (set since (count + 1) s)
      since_one k = record { told = λ end first m n. go end first m n (eqb end (count + 1)) refl }
        where
          go : (end first : ℕ) → end ≤ count + 1 → first ≤ end → (b : Bool) → eqb end (count + 1) ≡ b
              → differ other first (end - first) ≡ leb (get_or (set since (count + 1) s) end 0) first
          go end first m n true t =
              let e : end ≡ count + 1 = eqb-true end (count + 1) t in
              rw (e, get_or-set_same since (count + 1) s 0 k) (next_told first (omega arith))
          go end first m n false t =
              let x : end ≡ count + 1 → ⊥ = eqb-false end (count + 1) t in
              rw (get_or-set_other since (count + 1) end s 0 x) (h.told end first (omega arith) n)

  -- rows from 0 on
  pub differ_first : (p : ℕ → Bool) (n : ℕ) → ((row : ℕ) → p row ≡ all (other row) row) → differ other 0 n ≡ all p n
  unfolding differ is_other
  differ_first p n h = all_same (is_other other 0) p n (λ i l. go i)
    where
      go : (i : ℕ) → is_other other 0 i ≡ p i
      go i = all_same (λ j. other (0 + i) (0 + j)) (other i) i (λ j k. rw (zero-add i, zero-add j)) ∙ sym (h i)
