-- What stands before the value of a part, by whether it has a key, and around all parts, by whether they have keys. Assumes nothing.
use mathlib.Core.Path.{◌≡◌}
use mathlib.Core.Bool.{Bool, true, false}
use mathlib.Core.List.{List, [], ◌∷◌}
use Rattle.std.specs.Prelude.{Option, Some, None}
use Rattle.std.specs.Option.{option_copied}
use denote.Ref.{Bor}
use Prim.Native.Nat.{ℕ}
use Rattle.tokens.specs.Escape.{quoted}
use Rattle.writing.specs.Wrote.{Writes, Closes}
use Rattle.writing.proofs.WritesLaws.{cons, «then»}
use Rattle.values.specs.Put.{label, key_of, label_of, left, right}

module _ (key : Option (Bor (List ℕ))) {t t1 : List ℕ} {a a1 : ℕ} where
  pub label_bare : key ≡ None → Writes t t1 a a1 (44 ∷ []) → Writes t t1 a a1 (label_of (option_copied key))
  unfolding label
  label_bare e w = rw e w

  pub label_keyed : {t2 t3 : List ℕ} {a2 a3 : ℕ} {k : Bor (List ℕ)} → key ≡ Some k → Writes t t1 a a1 (44 ∷ []) → Writes t1 t2 a1 a2 (quoted k.now)
      → Writes t2 t3 a2 a3 (58 ∷ []) → Writes t t3 a a3 (label_of (option_copied key))
  unfolding label
  label_keyed e w v u = rw e (cons w («then» v u))

pub ruleset labels = (label_bare, label_keyed)

-- the label by the key that a part has, if the parts have keys
pub part_labelled : (key : List ℕ) (keyed : Bool) {k : Option (List ℕ)} {t t1 : List ℕ} {a a1 : ℕ} → k ≡ key_of keyed key
    → Writes t t1 a a1 (label_of k) → Writes t t1 a a1 (label keyed key)
unfolding label
part_labelled key false e w = rw e at w
part_labelled key true e w = rw e at w

module _ (keyed : Bool) {t t' : List ℕ} {start at end : ℕ} where
  -- square brackets are those of parts without keys
  pub square : keyed ≡ false → Closes 91 93 t start at t' end → Closes (left keyed) (right keyed) t start at t' end
  square e q = rw e q

  -- and curly ones those of parts with keys
  pub curly : keyed ≡ true → Closes 123 125 t start at t' end → Closes (left keyed) (right keyed) t start at t' end
  curly e q = rw e q

-- the brackets around the parts, of either kind
pub ruleset brackets = (square, curly)
