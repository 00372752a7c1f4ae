-- Where collecting fields, coercing arguments or resolving a field fails, it has logged an error record at the field's path: the only failures in
-- them are errors that are made there. Assumes nothing.
use mathlib.Core.List.{[], ◌∷◌}
use Prim.Native.Nat.{ℕ}
use Rattle.codes.specs.declared.errors.FieldError.{FieldError}
use Rattle.graphql.specs.Run.{Path, Log, M}
use Rattle.graphql.specs.Errors.{error_of}
use Rattle.graphql.proofs.Meets.{Meets, Mono, meets_pure, meets_halt, meets_fail, meets_when, meets_then, meets_weaken, meets_in_order}
use Rattle.graphql.proofs.Closed.{Closed}

-- where `m` fails its log is in `F`
abbrev pub FailsIn : (Log → Type 0) → {A : Type 0} → M A → Type 0
FailsIn F m = Meets F (λ a w. Unit) m

pub fails_closed : {F : Log → Type 0} → Mono F → (p : Path) → ((e : FieldError) (field definition literal : ℕ) → F (error_of e field definition literal p ∷ []))
    → Closed (λ A m. FailsIn F m) p
fails_closed mf p recorded = record {
  of_pure = λ a. meets_pure a tt;
  of_far = meets_halt _;
  of_fields = meets_halt _;
  of_variable_lem = meets_halt _;
  of_error = λ e field definition literal. meets_fail _ _ (recorded e field definition literal);
  of_when = λ b h k. meets_when b h k;
  of_bind = λ h k. meets_then mf (λ b u w s t. t) h (λ a _. k a);
  of_in_order = λ h gs. meets_weaken (λ w f. f) (λ vs w k. tt) (meets_in_order mf (λ g v u w s k. k) h gs);
}
