-- The marks, a row of numbers, and what is remembered by name: fragments of different names stand in different rows. Assumes nothing.
use mathlib.Core.Path.{◌≡◌, refl, sym, ◌∙◌}
use mathlib.Core.Bool.{Bool, true, false, cond}
use mathlib.Core.List.{List, [], ◌∷◌}
use Rattle.std.specs.Prelude.{Some, None}
use Prim.Native.Nat.{ℕ, ◌≤◌, ◌<◌}
use native.Mathlib.Omega.{arith}
use lib.Dec.{eqb}
use lib.ListN.{length, get_or, set, replicate, get_or-replicate}
use lib.Seq.{get_or-set_same, get_or-set_other}
use borrow.Author.Tests.{eqb-true, eqb-false}
use Rattle.rows.specs.Layout.{fragment_width}
use Rattle.rows.specs.Rows.{rows_of}
use Rattle.graphql.specs.Lookup.{fragment_named}
use Rattle.graphql.specs.Depth.{Rises, rise_of}
use Rattle.introspection.specs.MaxDepth.{Marks, Marked}
use Rattle.lookup.proofs.Fragments.{row_below, row_named}

module _ (fragments : List ℕ) where
  -- nothing is remembered
  pub unmarked : rows_of fragments fragment_width ≤ 64 → Marked fragments (replicate 64 None) []
  unfolding rise_of
  unmarked few = record { marked = λ name row e. get_or-replicate 64 row None None (let l = row_below fragments name row e in omega arith) }

  module _ {marks : Marks} {rises : Rises} (m : Marked fragments marks rises) where
    -- one more is
    pub marked_one : (name row rise : ℕ) → fragment_named fragments name ≡ Some row → row < length marks → Marked fragments (set marks row (Some rise)) ((name, rise) ∷ rises)
    unfolding rise_of
    marked_one name row rise e l = record { marked = λ name' row' e'. go name' row' e' (eqb name name') refl }
      where
        go : (name' row' : ℕ) → fragment_named fragments name' ≡ Some row' → (b : Bool) → eqb name name' ≡ b
            → get_or (set marks row (Some rise)) row' None ≡ cond b (Some rise) (rise_of name' rises)
        go name' row' e' true t =
            let n : name ≡ name' = eqb-true name name' t in
            let e'' : fragment_named fragments name ≡ Some row' = rw n e' in
            let s : row ≡ row' = cc in
            rw (← s) (get_or-set_same marks row (Some rise) None l)
        go name' row' e' false t =
            let other : row' ≡ row → ⊥ = λ s. eqb-false name name' t (sym (row_named fragments name row e) ∙ (rw (← s) (row_named fragments name' row' e'))) in
            get_or-set_other marks row row' (Some rise) None other ∙ m.marked name' row' e'
