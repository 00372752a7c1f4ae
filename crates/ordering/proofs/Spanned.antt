-- The words of a set's spans beside its slots: one is 0 where the slot is empty, and else, where that is sure, one more than the length of the slot's
-- entry. So the code finds the definition's slot and the definition's place. Assumes nothing.
use mathlib.Core.Path.{◌≡◌, refl, ap, ◌∙◌}
use Rattle.std.specs.Prelude.{Option, Some, None}
use mathlib.Core.List.{List, [], ◌∷◌}
use Prim.Native.Nat.{ℕ, zero, suc}
use native.Mathlib.Omega.{arith}
use lib.ListN.{length, take, get_or, set, replicate, length-append}
use Rattle.graphql.specs.Data.{Val}
use Rattle.walking.proofs.Filling.{slot, empties}
use Rattle.walking.proofs.Slotted.{slot_entry, slotted}
use Rattle.ordering.specs.Spans.{open_at, opens, together}

module _ {G : Type 0} (key : G → List ℕ) where
  pub data Spanned (sure : Type 0) : List G → List (Option Val) → List ℕ → Type 0 where
    ends : Spanned sure [] [] []
    opened : {g : G} {gs : List G} {os : List (Option Val)} {ws : List ℕ} → Spanned sure gs os ws → Spanned sure (g ∷ gs) (None ∷ os) (0 ∷ ws)
    filled : {g : G} {v : Val} {w : ℕ} {gs : List G} {os : List (Option Val)} {ws : List ℕ} → (sure → w ≡ length (slot_entry key g (Some v)))
        → Spanned sure gs os ws → Spanned sure (g ∷ gs) (Some v ∷ os) (suc w ∷ ws)

  -- Before the first turn.
  pub spanned_none : (sure : Type 0) (gs : List G) → Spanned sure gs (replicate (length gs) None) (replicate (length gs) 0)
  spanned_none sure [] = ends
  spanned_none sure (g ∷ gs) = opened (spanned_none sure gs)

  module _ {sure : Type 0} where
    pub spanned_slot : {gs : List G} {os : List (Option Val)} {ws : List ℕ} → Spanned sure gs os ws → (j : ℕ) → slot os j ≡ open_at ws j
    unfolding slot open_at
    spanned_slot ends j = refl
    spanned_slot (opened h) zero = refl
    spanned_slot (opened h) (suc j) = ap suc (spanned_slot h j)
    spanned_slot (filled e h) j = ap suc (spanned_slot h j)

    pub spanned_empties : {gs : List G} {os : List (Option Val)} {ws : List ℕ} → Spanned sure gs os ws → empties os ≡ opens ws
    unfolding empties opens
    spanned_empties ends = refl
    spanned_empties (opened h) = ap suc (spanned_empties h)
    spanned_empties (filled e h) = spanned_empties h

    -- how long the entries of the first slots are, and all of them
    pub spanned_first : {gs : List G} {os : List (Option Val)} {ws : List ℕ} → sure → Spanned sure gs os ws → (i : ℕ)
        → length (slotted key gs (take i os)) ≡ together (take i ws)
    unfolding slotted together
    spanned_first s ends zero = refl
    spanned_first s ends (suc i) = refl
    spanned_first s (opened h) zero = refl
    spanned_first s (opened h) (suc i) = let r = spanned_first s h i in omega arith
    spanned_first s (filled e h) zero = refl
    spanned_first s (filled {g} {v} {w} {gs} {os} e h) (suc i) =
        let r = spanned_first s h i in
        length-append (slot_entry key g (Some v)) (slotted key gs (take i os)) ∙ omega (arith, e s)

    pub spanned_all : {gs : List G} {os : List (Option Val)} {ws : List ℕ} → sure → Spanned sure gs os ws
        → length (slotted key gs os) ≡ together ws
    unfolding slotted together
    spanned_all s ends = refl
    spanned_all s (opened h) = let r = spanned_all s h in omega arith
    spanned_all s (filled {g} {v} {w} {gs} {os} e h) =
        let r = spanned_all s h in length-append (slot_entry key g (Some v)) (slotted key gs os) ∙ omega (arith, e s)

    -- One is filled.
    pub spanned_set : (z : G) {gs : List G} {os : List (Option Val)} {ws : List ℕ} (i : ℕ) (v : Val) (w : ℕ) → Spanned sure gs os ws
        → (sure → w ≡ length (slot_entry key (get_or gs i z) (Some v))) → Spanned sure gs (set os i (Some v)) (set ws i (suc w))
    spanned_set z i v w ends e = ends
    spanned_set z zero v w (opened h) e = filled e h
    spanned_set z (suc i) v w (opened h) e = opened (spanned_set z i v w h e)
    spanned_set z zero v w (filled d h) e = filled e h
    spanned_set z (suc i) v w (filled d h) e = filled d (spanned_set z i v w h e)

    -- Less may be sure.
    pub spanned_less : {less : Type 0} {gs : List G} {os : List (Option Val)} {ws : List ℕ} → (less → sure) → Spanned sure gs os ws
        → Spanned less gs os ws
    spanned_less f ends = ends
    spanned_less f (opened h) = opened (spanned_less f h)
    spanned_less f (filled e h) = filled (λ s. e (f s)) (spanned_less f h)
