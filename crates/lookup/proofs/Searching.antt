-- A search through rows: how far it went, what it found, and where that lies. Assumes nothing.
use mathlib.Core.Path.{◌≡◌, refl, ◌∙◌}
use mathlib.Core.Bool.{Bool, true, false, cond, ◌||◌}
use mathlib.Core.List.{List, [], ◌∷◌}
use Rattle.std.specs.Prelude.{Option, Some, None, is_some}
use Prim.Native.Nat.{ℕ, zero, suc, ◌+◌, ◌-◌, ◌≤◌, ◌<◌}
use native.Mathlib.Nat.{sub-zero, add-zero}
use native.Mathlib.Omega.{arith}
use borrow.Author.Tests.{eq-eqb, ne_eqb}
use denote.Param.Members.{Mut}
use Rattle.rows.specs.Rows.{cell}
use Rattle.std.specs.Fn.{Called}
use Rattle.std.specs.Iterator.{ChecksAny}
use Rattle.std.specs.List.{list_any, range_with_len}
use Rattle.std.proofs.iter.Yields.{nat_range_steps}
use Rattle.std.proofs.lemmas.Iterator.{YieldsList-from_range}
use Rattle.std.proofs.lemmas.Iterator.Search.{any_from_yields_List}
use Rattle.std.specs.declared.ops.Range.{Range as Span}
use Rattle.rows.specs.declared.layout.Range.{Range}
use Rattle.graphql.specs.Lookup.{rows_from, rows_in, find, any}
use Rattle.lookup.specs.Found.{has_word}

module _ (test : ℕ → Bool) where
  -- the row that comes next does not pass
  find_next : (row n : ℕ) → test row ≡ false → find test (rows_from row (suc n)) ≡ find test (rows_from (suc row) n)
  unfolding find rows_from
  find_next row n e = rw e

  find_past : (row n : ℕ) {m : ℕ} → m ≡ suc n → test row ≡ false → find test (rows_from row m) ≡ find test (rows_from (row + 1) n)
  find_past row n e t = let on : row + 1 ≡ suc row = omega arith in rw (e, on) (find_next row n t)

  -- or it does
  find_here : (row n : ℕ) → test row ≡ true → find test (rows_from row (suc n)) ≡ Some row
  unfolding find rows_from
  find_here row n e = rw e

  -- what was found passes
  pub find_passes : (rows : List ℕ) (f : ℕ) → find test rows ≡ Some f → test f ≡ true
  unfolding find
  find_passes [] f e = absurd (let z : ◌≡◌ {A = ℕ} 0 1 = cc in omega arith)
  find_passes (row ∷ rest) f e = go (test row) refl e (find_passes rest f)
    where
      go : (b : Bool) → test row ≡ b → cond b (Some row) (find test rest) ≡ Some f → (find test rest ≡ Some f → test f ≡ true) → test f ≡ true
      go true t e later = let s : row ≡ f = cc in rw (← s) t
      go false t e later = later e

  -- and is one of the rows
  pub find_below : (first n f : ℕ) → find test (rows_from first n) ≡ Some f → f < first + n
  unfolding find rows_from
  find_below first zero f e = absurd (let z : ◌≡◌ {A = ℕ} 0 1 = cc in omega arith)
  find_below first (suc n) f e = go (test first) e (find_below (suc first) n f)
    where
      go : (b : Bool) → cond b (Some first) (find test (rows_from (suc first) n)) ≡ Some f
          → (find test (rows_from (suc first) n) ≡ Some f → f < suc first + n) → f < first + suc n
      go true e later = let s : first ≡ f = cc in omega arith
      go false e later = let l : f < suc first + n = later e in omega arith

  -- one of the rows passes just if one is found
  pub any_found : (rows : List ℕ) → any test rows ≡ is_some (find test rows)
  unfolding any find
  any_found [] = refl
  any_found (row ∷ rest) = go (test row) (any_found rest)
    where
      go : (b : Bool) → any test rest ≡ is_some (find test rest) → (b || any test rest) ≡ is_some (cond b (Some row) (find test rest))
      go true h = refl
      go false h = h

-- ---- the search for a word: what is left of the rows, from this one on

module _ (t : List ℕ) (width column word : ℕ) (rows : Range) where
  abbrev passes' : ℕ → Bool
  passes' = has_word t width column word

  pub record Left (row : ℕ) : Type 0 where
    pub sought : find passes' (rows_in rows) ≡ find passes' (rows_from row (rows.first + rows.count - row))

  pub left_begin : Left rows.first
  unfolding rows_in
  left_begin = record { sought = let e : rows.first + rows.count - rows.first ≡ rows.count = omega arith in rw e }

  module _ {row got : ℕ} (s : Left row) (l : row < rows.first + rows.count) (e : got ≡ cell t width row column) where
    others : rows.first + rows.count - row ≡ suc (rows.first + rows.count - (row + 1))
    others = omega arith

    pub left_next : (got ≡ word → ⊥) → Left (row + 1)
    left_next d =
        record { sought = s.sought ∙ find_past passes' row (rows.first + rows.count - (row + 1)) others (ne_eqb _ _ (rw e at d)) }

    pub left_found : got ≡ word → Some row ≡ find passes' (rows_in rows)
    left_found d = rw (s.sought, others, find_here passes' row (rows.first + rows.count - (row + 1)) (eq-eqb _ _ (rw e at d)))

  pub left_none : {row : ℕ} → Left row → rows.first + rows.count ≤ row → None ≡ find passes' (rows_in rows)
  unfolding find rows_from
  left_none {row} s l = let z : rows.first + rows.count - row ≡ 0 = omega arith in rw (s.sought, z)

pub ruleset seeking = (left_begin, left_next, left_found, left_none)

-- ---- the library's search through a range

module _ (test : ℕ → Bool) where
  any_same : (first n : ℕ) → list_any test (range_with_len first n) ≡ any test (rows_from first n)
  unfolding any rows_from
  any_same first zero = refl
  any_same first (suc n) = let e : first + 1 ≡ suc first = omega arith in rw (e, any_same (suc first) n)

  pub any_in_range : (rows : Range) {F : Type 0} {g : Mut F (ℕ × Unit {0}) Bool} {f : F} {r : Bool} (u : Span ℕ)
      → ChecksAny nat_range_steps g (record { start = rows.first; end = rows.first + rows.count }) f r u
      → ((row : ℕ) (b : Bool) (h : F) → Called g f (row, tt) b h → (h ≡ f) × (b ≡ test row)) → r ≡ any test (rows_in rows)
  unfolding rows_in
  any_in_range rows {f = f'} {r = r'} u ran agrees =
      any_from_yields_List test u f' r' ran (YieldsList-from_range rows.first (rows.first + rows.count) rows.count refl (omega arith)) agrees
      ∙ any_same rows.first rows.count

  -- whether one was found
  pub passes : (rows : List ℕ) {found : Option ℕ} {b : Bool} → found ≡ find test rows → b ≡ is_some found → b ≡ any test rows
  passes rows e f = rw (f, e, any_found test rows)

-- the search came to the row first + i
module _ (test : ℕ → Bool) (rows : Range) where
  pub record Seeking (i : ℕ) : Type 0 where
    pub below : i ≤ rows.count
    pub sought : find test (rows_in rows) ≡ find test (rows_from (rows.first + i) (rows.count - i))

  pub seek_begin : Seeking 0
  unfolding rows_in
  seek_begin = record { below = omega arith; sought = rw (sub-zero, add-zero) }

  module _ {i : ℕ} (s : Seeking i) (l : i < rows.count) where
    left : rows.count - i ≡ suc (rows.count - (i + 1))
    left = omega arith

    pub seek_next : test (rows.first + i) ≡ false → Seeking (i + 1)
    seek_next e =
        let on : rows.first + (i + 1) ≡ suc (rows.first + i) = omega arith in
        record { below = omega arith; sought = s.sought ∙ rw (left, on, find_next test (rows.first + i) (rows.count - (i + 1)) e) }

    pub seek_found : test (rows.first + i) ≡ true → find test (rows_in rows) ≡ Some (rows.first + i)
    seek_found e = rw (s.sought, left, find_here test (rows.first + i) (rows.count - (i + 1)) e)

  pub seek_none : {i : ℕ} → Seeking i → rows.count ≤ i → find test (rows_in rows) ≡ None
  unfolding find rows_from
  seek_none {i} s l = let z : rows.count - i ≡ 0 = omega arith in rw (s.sought, z)

-- what a search that found nothing, and one that found a row, say of whether there is one
module _ (test : ℕ → Bool) (rows : List ℕ) where
  pub none_passes : None ≡ (find test rows) → false ≡ any test rows
  none_passes e = rw any_found (go (find test rows) e)
    where
      go : (o : Option ℕ) → None ≡ o → false ≡ is_some o
      go None e = refl
      go (Some row) e = absurd (let z : ◌≡◌ {A = ℕ} 0 1 = cc in omega arith)

  pub one_passes : {row : ℕ} → Some row ≡ (find test rows) → true ≡ any test rows
  one_passes e = rw any_found (go (find test rows) e)
    where
      go : (o : Option ℕ) {row : ℕ} → Some row ≡ o → true ≡ is_some o
      go None e = absurd (let z : ◌≡◌ {A = ℕ} 0 1 = cc in omega arith)
      go (Some row) e = refl
