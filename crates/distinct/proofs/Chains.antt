-- How the last row of each value, and the row before each row in its chain, follow the rows; and why who walks a chain back passes no
-- row that is the same: rows that are the same have the same value. Assumes nothing.
use mathlib.Core.Path.{◌≡◌, refl, sym, ◌∙◌}
use mathlib.Core.Bool.{Bool, true, false, not}
use mathlib.Core.List.{List}
use Prim.Native.Nat.{ℕ, ◌+◌, ◌-◌, ◌≤◌, ◌<◌}
use native.Mathlib.Decide.{dec_le}
use native.Mathlib.Omega.{arith}
use lib.Dec.{eqb}
use lib.ListN.{length, get_or, set, length-set, replicate, length-replicate, get_or-replicate}
use lib.Seq.{get_or-set_same, get_or-set_other}
use borrow.Author.Tests.{eqb-true, eqb-false, eq-eqb, ne_eqb, not-true, not-false}
use Rattle.distinct.specs.Differ.{AfterLast, AfterValue, Lasts, Links, Cursor}
use Rattle.distinct.proofs.Differ.{after_pass, after_fail, after_none}

module _ (value : ℕ → ℕ) where
  module _ (size : ℕ) where
    -- no row has been looked at
    pub lasts_none : Lasts value size 0 (replicate size 0)
    lasts_none =
        record {
          sized = length-replicate {A = ℕ} size 0;
          noted = λ v h. rw (get_or-replicate {A = ℕ} size v 0 0 h) (after_none (λ j. not (eqb v (value j))));
        }

    -- the next row is the last one of its value
    pub lasts_one : (count v : ℕ) (lasts : List ℕ) → Lasts value size count lasts → v ≡ value count → v < size
        → Lasts value size (count + 1) (set lasts v (count + 1))
    lasts_one count v lasts h e l =
        record { sized = length-set lasts v (count + 1) ∙ h.sized; noted = λ w m. go w m (eqb w v) refl }
      where
        go : (w : ℕ) → w < size → (b : Bool) → eqb w v ≡ b → AfterValue value w (count + 1) (get_or (set lasts v (count + 1)) w 0)
        go w m true s =
            let n : w ≡ v = eqb-true w v s in
            let k : v < length lasts = omega (arith, h.sized) in
            rw (n, get_or-set_same lasts v (count + 1) 0 k) (after_fail (λ j. not (eqb v (value j))) count (rw (eq-eqb v (value count) e)))
        go w m false s =
            let n : w ≡ v → ⊥ = eqb-false w v s in
            rw (get_or-set_other lasts v w (count + 1) 0 n)
            (after_pass (λ j. not (eqb w (value j))) 0 count (get_or lasts w 0) (h.noted w m) (rw (ne_eqb w (value count) (λ f. n (f ∙ sym e)))))

    -- the last one that has the next row's value
    pub lasts_found : (count v : ℕ) (lasts : List ℕ) → Lasts value size count lasts → v ≡ value count → v < size
        → AfterValue value (value count) count (get_or lasts v 0)
    lasts_found count v lasts h e l = rw (← e) (h.noted v l)

  pub links_none : (next : List ℕ) → Links value 0 next
  links_none next = record { linked = λ row h. absurd (omega arith) }

  -- the next row is linked to what was the last one of its value
  pub links_one : (count r : ℕ) (next : List ℕ) → Links value count next → AfterValue value (value count) count r → count < length next
      → Links value (count + 1) (set next count r)
  links_one count r next h a l = record { linked = λ row m. go row m (eqb row count) refl }
    where
      go : (row : ℕ) → row < count + 1 → (b : Bool) → eqb row count ≡ b → AfterValue value (value row) row (get_or (set next count r) row 0)
      go row m true s = let n : row ≡ count = eqb-true row count s in rw (n, get_or-set_same next count r 0 l) a
      go row m false s =
          let n : row ≡ count → ⊥ = eqb-false row count s in
          rw (get_or-set_other next count row r 0 n) (h.linked row (omega arith))

  -- rows that are the same have the same value
  module _ (other : ℕ → ℕ → Bool) (valued : (one two : ℕ) → (value one ≡ value two → ⊥) → other one two ≡ true) where
    -- a row of another value than v's
    off : (v j : ℕ) → not (eqb v (value j)) ≡ true → v ≡ value j → ⊥
    off v j e = eqb-false v (value j) (not-true (eqb v (value j)) e)

    -- at the head of its chain
    pub cursor_start : (row v head : ℕ) → v ≡ value row → AfterValue value v row head → Cursor other value row head
    cursor_start row v head e a = record {
      high = a.high;
      passed = λ j l m. valued row j (λ f. off v j (a.others j l m) (e ∙ f));
      met = λ h. sym (eqb-true v (value (head - 1)) (not-false (eqb v (value (head - 1))) (a.last h))) ∙ e;
    }

    -- past a row that differs
    pub cursor_step : (row cursor next : ℕ) → Cursor other value row cursor → 0 < cursor → other row (cursor - 1) ≡ true
        → AfterValue value (value (cursor - 1)) (cursor - 1) next → Cursor other value row next
    cursor_step row cursor next c h o a =
        let start : Cursor other value (cursor - 1) next = cursor_start (cursor - 1) (value (cursor - 1)) next refl a in
        record {
          high = omega (arith, a.high, c.high);
          passed = λ j l m. go j l m (dec_le cursor j) (dec_le (cursor - 1) j);
          met = λ k. start.met k ∙ c.met h;
        }
      where
        go : (j : ℕ) → next ≤ j → j < row → Dec (cursor ≤ j) → Dec (cursor - 1 ≤ j) → other row j ≡ true
        go j l m (yes n) w = c.passed j n m
        go j l m (no n) (yes w) = let s : j ≡ cursor - 1 = omega arith in rw s o
        go j l m (no n) (no w) = valued row j (λ f. off (value (cursor - 1)) j (a.others j l (omega arith)) (c.met h ∙ f))

    -- a row that is the same ends the search, and so does the row that it goes back to
    pub cursor_found : (row from cursor : ℕ) → Cursor other value row cursor → from < cursor → other row (cursor - 1) ≡ false
        → AfterLast (other row) from row cursor
    cursor_found row from cursor c h e = record { low = omega arith; high = c.high; others = c.passed; last = λ k. e }

    pub cursor_end : (row from cursor : ℕ) → Cursor other value row cursor → cursor ≤ from → from ≤ row
        → AfterLast (other row) from row from
    cursor_end row from cursor c h k =
        record { low = omega arith; high = k; others = λ j l m. c.passed j (omega arith) m; last = λ n. absurd (omega arith) }
