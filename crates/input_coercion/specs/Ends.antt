-- How a coercion ends: what the code answers, and what the definition's run is then.
use Rattle.std.specs.Prelude.{Ok, Err}
use Rattle.std.specs.Prelude.{◌≡◌, List, ℕ, Result, Ok, Err}
use Rattle.rows.specs.Json.{literal_place}
use Rattle.rows.specs.declared.schema.Argument.{Argument}
use Rattle.codes.specs.Outcome.{code_of}
use Rattle.graphql.specs.Run.{Path, Event, err, here, Choices, M, pure, halt, fail}
use Rattle.codes.specs.Errors.{number_of}
use Rattle.codes.specs.declared.errors.FieldError.{FieldError}
use Rattle.input_coercion.specs.declared.check.Failure.{Failure}
use Rattle.input_coercion.specs.declared.check.Uncoerced.{Uncoerced}
use Rattle.input_coercion.specs.declared.check.Uncoerced.TheVariants.{Failed, Stop}

-- what a coercion answers: nothing where there is a value, and otherwise why there is none
abbrev pub Coercion : Type 0
Coercion = Result (Unit {0}) Uncoerced

-- the error record of a failure
abbrev pub error_at : Failure → Path → Event
error_at f p = err (record { code = number_of f.error; place = f.place; path = p })

-- a literal fails at its own place
abbrev pub literal_fails : (literals : List ℕ) → FieldError → (row : ℕ) → Coercion
literal_fails literals e row = Err (Failed (record { error = e; place = literal_place literals row }))

-- an argument fails at its definition's place
abbrev pub argument_fails : FieldError → Argument → Coercion
argument_fails e argument = Err (Failed (record { error = e; place = argument.place }))

-- the run comes to a value: nothing is logged, and no choice is read
pub record Valued {A : Type 0} (m : M A) : Type 0 where
  pub value : A
  pub is : (c : Choices) → m c ≡ pure value c

-- the run `m` ends as the code says
abbrev pub Ends : {A : Type 0} → Path → M A → Coercion → Type 0
Ends p m (Ok u) = Valued m
Ends p m (Err (Failed f)) = (c : Choices) → m c ≡ fail here (error_at f p) c
Ends p m (Err (Stop o)) = (c : Choices) → m c ≡ halt (code_of o) c

-- A run of the definition, by the pool, the names and the path. How it ends hangs on none of them: only the value and the path of an error do.
abbrev pub Coercing : Type 0 → Type 0
Coercing A = (pool names : List ℕ) → Path → M A

pub record Checks {A : Type 0} (m : Coercing A) (r : Coercion) : Type 0 where
  pub ends : (pool names : List ℕ) (p : Path) → Ends p (m pool names p) r
