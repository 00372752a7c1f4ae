-- Tests one behind the other. Assumes nothing.
use mathlib.Core.Path.{◌≡◌, refl, sym, ◌∙◌}
use mathlib.Core.Bool.{Bool, true, false, not, true≢false, false≢true}
use mathlib.Core.List.{List, [], ◌∷◌}
use Prim.Native.Nat.{ℕ, zero, suc}
use lib.ListN.{get_or}
use Rattle.tables.specs.ByTable.{conj}
use Rattle.rows.proofs.Every.{and_left, and_right}

-- a test that is turned
pub turned_true : (r : Bool) → not r ≡ false → r ≡ true
turned_true true e = refl
turned_true false e = absurd (true≢false e)

pub turned_false : (r : Bool) → not r ≡ true → r ≡ false
turned_false true e = absurd (false≢true e)
turned_false false e = refl

-- what holds of a whole list holds of each
pub conj_at : (bs : List Bool) (k : ℕ) → conj bs ≡ true → get_or bs k true ≡ true
unfolding conj
conj_at [] k e = refl
conj_at (b ∷ []) zero e = e
conj_at (b ∷ []) (suc k) e = refl
conj_at (b ∷ c ∷ bs) zero e = and_left b (conj (c ∷ bs)) e
conj_at (b ∷ c ∷ bs) (suc k) e = conj_at (c ∷ bs) k (and_right b (conj (c ∷ bs)) e)

-- one that fails ends them
pub conj_broken : (bs : List Bool) (k : ℕ) (r : Bool) → r ≡ get_or bs k true → not r ≡ true → false ≡ conj bs
conj_broken bs k r e n = go (conj bs) refl
  where
    go : (b : Bool) → conj bs ≡ b → false ≡ b
    go true h = sym (turned_false r n) ∙ (e ∙ conj_at bs k h)
    go false h = refl
