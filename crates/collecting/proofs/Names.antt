-- The rows of fragments differ just if their names do. Assumes nothing.
use mathlib.Core.Path.{◌≡◌, refl, sym, ◌∙◌}
use mathlib.Core.Bool.{Bool, true, false}
use mathlib.Core.List.{List}
use Rattle.std.specs.Prelude.{Some, None}
use Prim.Native.Nat.{ℕ}
use native.Mathlib.Omega.{arith}
use lib.Dec.{eqb}
use borrow.Author.Tests.{eqb-true, eqb-false, eq-eqb, ne_eqb}
use Rattle.graphql.specs.Lookup.{fragment_named}
use Rattle.lookup.proofs.Fragments.{row_named}

module _ (fragments : List ℕ) where
  module _ (name row name' row' : ℕ) (e : fragment_named fragments name ≡ Some row) (e' : fragment_named fragments name' ≡ Some row') where
    pub same_row : eqb name name' ≡ eqb row' row
    same_row = go (eqb name name') refl
      where
        go : (b : Bool) → eqb name name' ≡ b → b ≡ eqb row' row
        go true t =
            let n : name ≡ name' = eqb-true name name' t in
            let f : fragment_named fragments name ≡ Some row' = rw n e' in
            let s : row' ≡ row = cc in
            sym (eq-eqb row' row s)
        go false t =
            sym (ne_eqb row' row (λ s. eqb-false name name' t (sym (row_named fragments name row e) ∙ (rw (← s) (row_named fragments name' row' e')))))

  pub other_name : (name name' row' : ℕ) → fragment_named fragments name ≡ None → fragment_named fragments name' ≡ Some row' → eqb name name' ≡ false
  other_name name name' row' e e' =
      ne_eqb name name' (λ n. let f : fragment_named fragments name ≡ Some row' = rw n e' in let z : ◌≡◌ {A = ℕ} 0 1 = cc in omega arith)
