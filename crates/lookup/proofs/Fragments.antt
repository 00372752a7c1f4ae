-- What the code says was found, and what the definition finds; and the row of a fragment's name. Assumes nothing.
use mathlib.Core.Path.{◌≡◌, refl, sym, ◌∙◌}
use mathlib.Core.Bool.{Bool}
use mathlib.Core.List.{List}
use Rattle.std.specs.Prelude.{Option, Some, None}
use Prim.Native.Nat.{ℕ, ◌<◌}
use native.Mathlib.Nat.{zero-add}
use native.Mathlib.Omega.{arith}
use lib.Dec.{eqb}
use borrow.Author.Tests.{eqb-true}
use Rattle.rows.specs.Layout.{fragment_width}
use Rattle.rows.specs.Rows.{rows_of}
use Rattle.rows.specs.Document.{fragment_at}
use Rattle.graphql.specs.Lookup.{rows_from, fragment_named}
use Rattle.lookup.proofs.Searching.{find_passes, find_below}

module _ (o : Option ℕ) {found : Option ℕ} (e : found ≡ o) where
  pub found_none : found ≡ None → o ≡ None
  found_none h = go o (sym h ∙ e)
    where
      go : (o : Option ℕ) → None ≡ o → o ≡ None
      go None h = refl
      go (Some row) h = absurd (let z : ◌≡◌ {A = ℕ} 0 1 = cc in omega arith)

  pub found_some : {row : ℕ} → found ≡ Some row → o ≡ Some row
  found_some {row} h = go o (sym h ∙ e)
    where
      go : (o : Option ℕ) → Some row ≡ o → o ≡ Some row
      go None h = absurd (let z : ◌≡◌ {A = ℕ} 0 1 = cc in omega arith)
      go (Some f) h = let s : f ≡ row = cc in rw s

-- the fragment has this name
abbrev named : List ℕ → ℕ → ℕ → Bool
named fragments name row = eqb (fragment_at fragments row).name name

module _ (fragments : List ℕ) where
  -- the row of a name is one of the fragments', and has that name
  pub row_below : (name row : ℕ) → fragment_named fragments name ≡ Some row → row < rows_of fragments fragment_width
  unfolding fragment_named
  row_below name row e = rw zero-add at (find_below (named fragments name) 0 (rows_of fragments fragment_width) row e)

  pub row_named : (name row : ℕ) → fragment_named fragments name ≡ Some row → (fragment_at fragments row).name ≡ name
  unfolding fragment_named
  row_named name row e =
      eqb-true (fragment_at fragments row).name name
      (find_passes (named fragments name) (rows_from 0 (rows_of fragments fragment_width)) row e)
