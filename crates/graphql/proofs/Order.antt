-- Two runs of one request agree, whatever their choices: every computation of the definition is made of the combinators that keep `Stable`. Assumes
-- nothing.
use Rattle.graphql.specs.Run.{Path}
use Rattle.graphql.specs.Request.{Request}
use Rattle.graphql.specs.Complete.{execute}
use Rattle.graphql.proofs.Stable.{Stable, depth_refused, fields_refused, variable_refused, stable_pure, stable_halt, stable_fail, stable_or_else, stable_passed, stable_when, stable_note, stable_bind, stable_in_order, stable_any_order}
use Rattle.graphql.proofs.Closed.{Closed}
use Rattle.graphql.proofs.Walked.{Kept, execute_kept}

-- what all but completing is made of
stable_closed : (p : Path) → Closed (λ A m. Stable m) p
stable_closed p = record {
  of_pure = λ a. stable_pure a;
  of_far = stable_halt _ depth_refused;
  of_fields = stable_halt _ fields_refused;
  of_variable_lem = stable_halt _ variable_refused;
  of_error = λ e field definition literal. stable_fail _ _;
  of_when = λ b h k. stable_when b h k;
  of_bind = λ h k. stable_bind h k;
  of_in_order = λ h gs. stable_in_order h gs;
}

stable_kept : Kept (λ A m. Stable m)
stable_kept = record {
  closed = stable_closed;
  of_error_item = λ e field definition literal p. stable_fail _ _;
  of_or_else = λ a h. stable_or_else a h;
  of_passed = λ h. stable_passed h;
  of_note = λ e h. stable_note e h;
  of_any_order = λ h p gs. stable_any_order h p gs;
}

module _ (Q : Request) where
  pub execute_stable : Stable (execute Q)
  execute_stable = execute_kept stable_kept Q
