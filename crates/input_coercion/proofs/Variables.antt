-- A variable inside a list or an object, way by way. Assumes nothing.
use mathlib.Core.Path.{◌≡◌, refl}
use mathlib.Core.Bool.{Bool, true, false}
use mathlib.Core.List.{List}
use Prim.Native.Nat.{ℕ}
use Rattle.std.specs.Prelude.{Option, Some, None, Ok}
use Rattle.codes.specs.declared.errors.FieldError.TheVariants as error
use Rattle.graphql.specs.Run.{when}
use Rattle.codes.specs.Errors.{place_of}
use Rattle.graphql.specs.Json.{null}
use Rattle.graphql.specs.Lookup.{non_null, variable_named}
use Rattle.graphql.specs.Coerce.{null_against, coerce_variable}
use Rattle.input_coercion.specs.Ends.{Coercion, literal_fails}
use Rattle.input_coercion.specs.Coerced.{Valuable, of_variable, ChecksInner}
use Rattle.input_coercion.proofs.Ends.{value_pure, fails}

module _ (refs nodes literals variables : List ℕ) (ty row name : ℕ) {found : Option ℕ} (e : found ≡ (variable_named variables name)) {b : Bool} where
  module _ (h : found ≡ None) (g : b ≡ non_null refs ty) where
    pub inner_missing : {r : Coercion} → b ≡ true → r ≡ literal_fails literals error.MissingVariable row
        → ChecksInner refs nodes literals variables ty row name r
    unfolding of_variable coerce_variable when place_of
    inner_missing t f = record {
      checks = λ types fields. record {
        ends = λ pool names p. rw (← e, h, ← g, t, f) (fails literals error.MissingVariable row p refl);
      };
    }

    pub inner_absent : b ≡ false → ChecksInner refs nodes literals variables ty row name (Ok tt)
    unfolding of_variable coerce_variable when
    inner_absent t = record { checks = λ types fields. record { ends = λ pool names p. rw (← e, h, ← g, t) (value_pure null) } }

  module _ {v : ℕ} (h : found ≡ Some v) (g : b ≡ null_against refs nodes variables ty v) where
    pub inner_null : {r : Coercion} → b ≡ true → r ≡ literal_fails literals error.NullVariable row
        → ChecksInner refs nodes literals variables ty row name r
    unfolding of_variable coerce_variable when place_of
    inner_null t f = record {
      checks = λ types fields. record {
        ends = λ pool names p. rw (← e, h, ← g, t, f) (fails literals error.NullVariable row p refl);
      };
    }

    pub inner_value : Valuable nodes variables → b ≡ false → ChecksInner refs nodes literals variables ty row name (Ok tt)
    unfolding of_variable coerce_variable when
    inner_value w t = record { checks = λ types fields. record { ends = λ pool names p. rw (← e, h, ← g, t) (w.values pool v) } }

pub ruleset inner = (inner_missing, inner_absent, inner_null, inner_value)
