-- With which codes a run stops on its way: 3, 4 and 5 of document 01, and no others. proofs/Stops proves it of a leaf, a group, a task, a set and a
-- run. Read it after Complete.
use Rattle.std.specs.Prelude.{◌≡◌, ℕ}
use Rattle.codes.specs.declared.outcome.Outcome.{Outcome}
use Rattle.codes.specs.declared.outcome.Outcome.TheVariants.{TooFar, TooManyFields, VariableInLiteral}
use Rattle.codes.specs.Outcome.{code_of}
use Rattle.graphql.specs.Run.{Choices, Res, stop, failed, done, M}
use Rattle.graphql.specs.Request.{Request}
use Rattle.graphql.specs.Complete.{execute}

-- The outcomes with which a run stops: "a path over 32 segments, or 33 open containers in a leaf or literal, 33 open fragments in one collection";
-- "a 129th field is collected for one set"; "a variable is reached inside a literal that converts part by part".
abbrev pub StopsRun : Outcome → Type 0
StopsRun TooFar = Unit {0}
StopsRun TooManyFields = Unit {0}
StopsRun VariableInLiteral = Unit {0}
StopsRun o = ⊥

-- the number of one of them
pub record NumberOfStop (code : ℕ) : Type 0 where
  pub outcome : Outcome
  pub stops : StopsRun outcome
  pub numbered : code_of outcome ≡ code

-- where it stopped, it is with one of these numbers
abbrev pub StopTold : {A : Type 0} → Res A → Type 0
StopTold (stop code log) = NumberOfStop code
StopTold (failed reach log left) = Unit {0}
StopTold (done a log left) = Unit {0}

-- the same of a computation, whatever the choices
pub record Told {A : Type 0} (m : M A) : Type 0 where
  pub told : (c : Choices) → StopTold (m c)

-- A run that stops does so with an outcome of document 01: code 3, 4 or 5.
abbrev pub RunTold : Type 0
RunTold = (Q : Request) → Told (execute Q)
