-- The arguments of a field, way by way: what a function knows where it returns is how the definition ends there. Assumes nothing.
use mathlib.Core.Path.{◌≡◌, refl}
use mathlib.Core.Bool.{Bool, true, false}
use mathlib.Core.List.{List, []}
use borrow.Enum.Refused.{shut}
use Prim.Native.Nat.{ℕ, ◌+◌, ◌≤◌, ◌<◌}
use native.Mathlib.Omega.{arith}
use Rattle.rows.specs.Limits.{most_rows}
use Rattle.rows.specs.Schema.{argument_at}
use Rattle.rows.specs.Document.{given_at}
use Rattle.rows.specs.declared.layout.Range.{Range}
use Rattle.std.specs.Prelude.{Option, Some, None, Ok, Err}
use Rattle.rows.specs.declared.schema.Argument.{Argument}
use Rattle.rows.specs.declared.document.Given.{Given}
use Rattle.codes.specs.declared.errors.FieldError.TheVariants as error
use Rattle.codes.specs.Outcome.{most_open}
use Rattle.graphql.specs.Run.{when}
use Rattle.codes.specs.Errors.{place_of}
use Rattle.graphql.specs.Errors.{place_among, error_of}
use Rattle.graphql.specs.Lookup.{rows_from, rows_in, non_null, variable_named}
use Rattle.graphql.specs.Values.{variable_value}
use Rattle.graphql.specs.Coerce.{null_against, argument_error, is_non_null, valued, default_argument, variable_argument, literal_argument, given_argument, coerce_argument, coerce_argument_values}
use Rattle.input_coercion.specs.Ends.{Coercion, argument_fails, Checks}
use Rattle.input_coercion.specs.Coerced.{FormAt, Valuable, given_named, of_part, of_value, of_default, of_variable_argument, of_argument, of_arguments, ChecksDefault, ChecksVariable}
use Rattle.input_coercion.specs.declared.check.Uncoerced.{Uncoerced}
use Rattle.input_coercion.specs.declared.check.Shape.{Shape}
use Rattle.input_coercion.specs.declared.check.Form.{Form}
use Rattle.input_coercion.specs.declared.check.Form.TheVariants as form
use Rattle.input_coercion.proofs.Ends.{value_pure, ends_made}
use Rattle.input_coercion.proofs.Going.{each, Going, going_begin, going_again, going_stopped, going_ended}
use Rattle.input_coercion.proofs.Walk.{value_null}

-- ---- a default

module _ (refs literals : List ℕ) (argument : Argument) where
  pub default_part : {default : ℕ} {r : Coercion} → argument.default ≡ Some default → Checks (of_part literals most_open default) r
      → ChecksDefault refs literals argument r
  unfolding of_default default_argument valued of_part
  default_part {r = r'} h q = record {
    checks = λ types fields nodes variables arguments given row e. record {
      ends = λ pool names p. rw (← e, h) (ends_made p _ _ r' (q.ends pool names p));
    };
  }

  module _ {b : Bool} (h : argument.default ≡ None) (g : b ≡ non_null refs argument.ty) where
    pub default_missing : {r : Coercion} → b ≡ true → r ≡ argument_fails error.MissingArgument argument → ChecksDefault refs literals argument r
    unfolding of_default default_argument is_non_null argument_error when error_of place_of place_among
    default_missing t f = record {
      checks = λ types fields nodes variables arguments given row e. record {
        ends = λ pool names p. rw (← e, h, ← e, ← g, t, f) (λ c. refl);
      };
    }

    pub default_absent : b ≡ false → ChecksDefault refs literals argument (Ok tt)
    unfolding of_default default_argument is_non_null when
    default_absent t = record {
      checks = λ types fields nodes variables arguments given row e. record {
        ends = λ pool names p. rw (← e, h, ← e, ← g, t) (value_pure []);
      };
    }

pub ruleset defaults = (default_part, default_missing, default_absent)

-- ---- a variable

module _ (refs nodes literals variables : List ℕ) (argument : Argument) (name : ℕ) {found : Option ℕ} (e : found ≡ (variable_named variables name)) where
  pub variable_default : {r : Coercion} → found ≡ None → ChecksDefault refs literals argument r
      → ChecksVariable refs nodes literals variables argument name r
  unfolding of_variable_argument variable_argument of_default
  variable_default h q = record {
    checks = λ types fields arguments given row a. record {
      ends = λ pool names p. rw (← e, h) ((q.checks types fields nodes variables arguments given row a).ends pool names p);
    };
  }

  module _ {v : ℕ} {b : Bool} (h : found ≡ Some v) (g : b ≡ null_against refs nodes variables argument.ty v) where
    pub variable_null : {r : Coercion} → b ≡ true → r ≡ argument_fails error.NullArgument argument
        → ChecksVariable refs nodes literals variables argument name r
    unfolding of_variable_argument variable_argument argument_error when error_of place_of place_among
    variable_null t f = record {
      checks = λ types fields arguments given row a. record {
        ends = λ pool names p. rw (← e, h, ← a, ← g, t, f) (λ c. refl);
      };
    }

    pub variable_value_lem : Valuable nodes variables → b ≡ false → ChecksVariable refs nodes literals variables argument name (Ok tt)
    unfolding of_variable_argument variable_argument valued when
    variable_value_lem w t = record {
      checks = λ types fields arguments given row a. record {
        ends = λ pool names p.
            rw (← e, h, ← a, ← g, t) (ends_made p (variable_value pool nodes variables v) _ (Ok tt) (w.values pool v));
      };
    }

pub ruleset variabled = (variable_default, variable_null, variable_value_lem)

-- ---- an argument

module _ (refs types fields nodes literals variables arguments given : List ℕ) (written : Range) (row : ℕ) {argument : Argument} {found : Option ℕ}
    (a : argument ≡ argument_at arguments row) (e : found ≡ (given_named given argument.name (rows_in written))) where
  pub argument_default_lem : {r : Coercion} → found ≡ None → ChecksDefault refs literals argument r
      → Checks (of_argument refs types fields nodes literals variables arguments given written row) r
  unfolding of_argument coerce_argument of_default
  argument_default_lem h q = record {
    ends = λ pool names p.
        rw (← a, ← e, h) ((q.checks types fields nodes variables arguments given row a).ends pool names p);
  }

  module _ {at : ℕ} {value : Given} {f : Form} (h : found ≡ Some at) (v : value ≡ given_at given at) (l : FormAt literals value.literal f) where
    module _ {b : Bool} (k : f ≡ form.Null) (g : b ≡ non_null refs argument.ty) where
      pub argument_null : {r : Coercion} → b ≡ true → r ≡ argument_fails error.NullArgument argument
          → Checks (of_argument refs types fields nodes literals variables arguments given written row) r
      unfolding of_argument coerce_argument given_argument is_non_null argument_error when error_of place_of place_among
      argument_null t m = record {
        ends = λ pool names p. rw (← a, ← e, h, ← v, l.is, k, ← a, ← g, t, m) (λ c. refl);
      }

      pub argument_nothing : b ≡ false → Checks (of_argument refs types fields nodes literals variables arguments given written row) (Ok tt)
      unfolding of_argument coerce_argument given_argument is_non_null literal_argument valued when of_value
      argument_nothing t = record {
        ends = λ pool names p.
            rw (← a, ← e, h, ← v, l.is, k, ← a, ← g, t)
            (ends_made p _ _ (Ok tt) ((value_null refs types fields nodes literals variables most_open argument.ty value.literal l k g t).ends pool names p));
      }

    pub argument_variable : {name : ℕ} {r : Coercion} → f ≡ form.Variable name → ChecksVariable refs nodes literals variables argument name r
        → Checks (of_argument refs types fields nodes literals variables arguments given written row) r
    unfolding of_argument coerce_argument given_argument of_variable_argument
    argument_variable k q = record {
      ends = λ pool names p.
          rw (← a, ← e, h, ← v, l.is, k) ((q.checks types fields arguments given row a).ends pool names p);
    }

    pub argument_shaped : {s : Shape} {r : Coercion} → f ≡ form.Shaped s
        → Checks (of_value refs types fields nodes literals variables most_open argument.ty value.literal) r
        → Checks (of_argument refs types fields nodes literals variables arguments given written row) r
    unfolding of_argument coerce_argument given_argument literal_argument valued of_value
    argument_shaped {r = r'} k q = record {
      ends = λ pool names p.
          rw (← a, ← e, h, ← v, l.is, k, ← a) (ends_made p _ _ r' (q.ends pool names p));
    }

pub ruleset arguing = (argument_default_lem, argument_null, argument_nothing, argument_variable, argument_shaped)

-- ---- all arguments

module _ (refs types fields nodes literals variables arguments given : List ℕ) (definitions written : Range) where
  arguments_made : {r : Coercion}
      → Checks (each (of_argument refs types fields nodes literals variables arguments given written) (rows_from definitions.first definitions.count)) r
      → Checks (of_arguments refs types fields nodes literals variables arguments given definitions written) r
  unfolding of_arguments coerce_argument_values each of_argument given_named rows_in
  arguments_made {r} q = record { ends = λ pool names p. ends_made p _ _ r (q.ends pool names p) }

  pub arguments_begin : definitions.first + definitions.count ≤ most_rows
      → Going (of_argument refs types fields nodes literals variables arguments given written) definitions.first definitions.count 0
  arguments_begin w = going_begin _ definitions.first definitions.count (omega arith)

  module _ {i : ℕ} (g : Going (of_argument refs types fields nodes literals variables arguments given written) definitions.first definitions.count i) where
    pub arguments_stopped : {e : Uncoerced} → i < definitions.count
        → Checks (of_argument refs types fields nodes literals variables arguments given written (definitions.first + i)) (Err e)
        → Checks (of_arguments refs types fields nodes literals variables arguments given definitions written) (Err e)
    arguments_stopped l q = arguments_made (going_stopped _ definitions.first definitions.count g l q)

    pub arguments_ended : definitions.count ≤ i
        → Checks (of_arguments refs types fields nodes literals variables arguments given definitions written) (Ok tt)
    arguments_ended l = arguments_made (going_ended _ definitions.first definitions.count g l)

pub ruleset listing = (arguments_begin, going_again, arguments_stopped, arguments_ended, shut)
