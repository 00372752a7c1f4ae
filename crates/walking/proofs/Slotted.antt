-- The text of a set's slots: the entries of those that are filled, in the groups' order, each with its comma and its key. Assumes nothing.
use mathlib.Core.Path.{◌≡◌, refl, sym, ap, ◌∙◌}
use Rattle.std.specs.Prelude.{Option, Some, None}
use mathlib.Core.List.{List, [], ◌∷◌, ◌++◌, map, append_assoc}
use Prim.Native.Nat.{ℕ, zero, suc, ◌<◌}
use native.Mathlib.Nat.{not-suc-le-zero, le_of_suc-le-suc}
use native.Mathlib.Omega.{arith}
use lib.ListN.{length, take, get_or, set, replicate}
use Rattle.tokens.specs.Escape.{quoted}
use Rattle.graphql.specs.Data.{Val, absent, val, fields, print_data, print_fields}
use Rattle.walking.specs.Gives.{labelled}
use Rattle.walking.proofs.Filling.{fill, empties}

-- what stands before the value of a field: a comma, the key and a colon
abbrev pub keyed : List ℕ → List ℕ
keyed k = 44 ∷ (quoted k ++ (58 ∷ []))

module _ {G : Type 0} (key : G → List ℕ) where
  abbrev pub slot_entry : G → Option Val → List ℕ
  slot_entry g None = []
  slot_entry g (Some v) = labelled (keyed (key g)) v

  unfoldable pub slotted : List G → List (Option Val) → List ℕ
  slotted [] os = []
  slotted (g ∷ gs) [] = []
  slotted (g ∷ gs) (o ∷ os) = slot_entry g o ++ slotted gs os

  -- Before the first turn there is none.
  pub slotted_none : (gs : List G) → slotted gs (replicate (length gs) None) ≡ []
  unfolding slotted
  slotted_none [] = refl
  slotted_none (g ∷ gs) = slotted_none gs

  -- With no slot empty it is the text of the object's fields.
  pub slotted_all : (gs : List G) (os : List (Option Val)) → length os ≡ length gs → empties os ≡ 0
      → print_fields (fields (map key gs) (fill os [])) ≡ slotted gs os
  unfolding print_fields fields fill empties slotted
  slotted_all [] os l z = refl
  slotted_all (g ∷ gs) [] l z = absurd (omega arith)
  slotted_all (g ∷ gs) (None ∷ os) l z = absurd (omega arith)
  slotted_all (g ∷ gs) (Some absent ∷ os) l z = slotted_all gs os (omega arith) z
  slotted_all (g ∷ gs) (Some (val d) ∷ os) l z =
      rw (slotted_all gs os (omega arith) z, append_assoc (quoted (key g)) (58 ∷ []) (print_data d)) (
      ap (λ (l : List ℕ). 44 ∷ l) (sym (append_assoc (quoted (key g)) (58 ∷ print_data d) (slotted gs os)))
      )

  -- An empty slot is filled: what is before it, what is after it, and the entry between them.
  pub slotted_set : (z : G) (gs : List G) (os : List (Option Val)) (i : ℕ) → length os ≡ length gs → i < length os → get_or os i None ≡ None
      → (after : List ℕ) × (slotted gs os ≡ slotted gs (take i os) ++ after)
      × ((v : Val) → slotted gs (set os i (Some v)) ≡ slotted gs (take i os) ++ (slot_entry (get_or gs i z) (Some v) ++ after))
  unfolding slotted
  slotted_set z gs [] i l h e = absurd (not-suc-le-zero h)
  slotted_set z [] (o ∷ os) i l h e = absurd (omega arith)
  slotted_set z (g ∷ gs) (o ∷ os) zero l h e = (slotted gs os, rw e, λ v. refl)
  slotted_set z (g ∷ gs) (o ∷ os) (suc i) l h e =
      let r = slotted_set z gs os i (omega arith) (le_of_suc-le-suc h) e in
      let p = slot_entry g o in
      let q = slotted gs (take i os) in (
        r.0,
        rw r.1 (sym (append_assoc p q r.0)),
        λ v. ap (λ (l : List ℕ). p ++ l) (r.2 v) ∙ sym (append_assoc p q (slot_entry (get_or gs i z) (Some v) ++ r.0)),
      )
