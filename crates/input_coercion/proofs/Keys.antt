-- The search for a key that the type has no field for. Assumes nothing.
use mathlib.Core.Path.{◌≡◌, refl, ◌∙◌}
use mathlib.Core.Bool.{Bool, true, false, not}
use mathlib.Core.List.{List}
use Rattle.std.specs.Prelude.{Option, Some, None, is_some}
use Prim.Native.Nat.{ℕ, ◌+◌, ◌≤◌, ◌<◌}
use Rattle.rows.specs.Json.{literal_key}
use Rattle.rows.specs.declared.layout.Range.{Range}
use Rattle.graphql.specs.Lookup.{rows_in, field_named}
use Rattle.graphql.specs.Coerce.{unknown_key}
use Rattle.lookup.specs.Found.{is_found}
use Rattle.lookup.proofs.Searching.{Seeking, seek_begin, seek_next, seek_found, seek_none}

-- the type has no field of the literal's key
abbrev pub unknown : (types fields literals : List ℕ) (type : ℕ) → ℕ → Bool
unknown types fields literals type m = elim (field_named types fields type (literal_key literals m)) [ None ↦ true | Some f ↦ false ]

none_is : (o : Option ℕ) (b : Bool) → is_some o ≡ not b → (elim o [ None ↦ true | Some f ↦ false ]) ≡ b
none_is None true h = refl
none_is None false h = cc
none_is (Some f) true h = cc
none_is (Some f) false h = refl

module _ (types fields literals : List ℕ) (type : ℕ) (given : Range) {i : ℕ} (s : Seeking (unknown types fields literals type) given i) where
  module _ (l : i < given.count) {key : ℕ} {found : Option ℕ} {b : Bool} (k : key ≡ literal_key literals (given.first + i))
      (e : found ≡ field_named types fields type key) (n : is_some found ≡ not b) where
    asked : unknown types fields literals type (given.first + i) ≡ b
    asked = none_is (field_named types fields type (literal_key literals (given.first + i))) b (rw (← k, ← e) n)

    pub key_next : b ≡ false → Seeking (unknown types fields literals type) given (i + 1)
    key_next t = seek_next (unknown types fields literals type) given s l (asked ∙ t)

    pub key_unknown : b ≡ true → true ≡ is_found (unknown_key types fields literals type (rows_in given))
    unfolding unknown_key
    key_unknown t = rw (seek_found (unknown types fields literals type) given s l (asked ∙ t))

  pub keys_known : given.count ≤ i → false ≡ is_found (unknown_key types fields literals type (rows_in given))
  unfolding unknown_key
  keys_known l = rw (seek_none (unknown types fields literals type) given s l)

pub ruleset keys = (seek_begin, key_next, key_unknown, keys_known)
