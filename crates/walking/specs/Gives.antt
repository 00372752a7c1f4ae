-- What every part of a run ensures: that it came to what a computation of the definition comes to. The answer's case, the text written, the
-- records noted, the choices left; and nothing else.
use Rattle.std.specs.Prelude.{◌≡◌, List, [], ◌++◌, ℕ, length, drop}
use Rattle.writing.specs.Wrote.{Wrote}
use Rattle.codes.specs.Outcome.{code_of}
use Rattle.codes.specs.declared.outcome.Outcome.{Outcome}
use Rattle.graphql.specs.Run.{Reach, here, past_list, Log, Choices, Res, stop, failed, done}
use Rattle.graphql.specs.Data.{Data, nulled, leaf, list, object, Val, absent, val, print_data}
use Rattle.graphql.specs.Report.{records_of, words_of}
use Rattle.walking.specs.declared.state.State.{State}
use Rattle.walking.specs.declared.state.Kind.{Kind}
use Rattle.walking.specs.declared.state.Kind.TheVariants as kind
use Rattle.walking.specs.declared.state.Failure.{Failure}
use Rattle.walking.specs.declared.state.Failure.TheVariants.{Here, PastList, Stop}
use Rattle.std.specs.Prelude.{Result, Ok, Err}
use Rattle.walking.specs.declared.state.Done.{Done}

-- how a completion ends: what stands at the place, or a failure going up
abbrev pub Completed : Type 0
Completed = Result Kind Failure

-- what the code says of a value, and the text that it writes for it
pub record View (A : Type 0) : Type 0 where
  pub says : A → Kind
  pub show : A → List ℕ

-- document 01's four cases of what stands at a place
abbrev pub kind_of : Data → Kind
kind_of nulled = kind.Null
kind_of (leaf j) = kind.Leaf
kind_of (list es) = kind.List
kind_of (object fs) = kind.Object

abbrev pub said_of : Val → Kind
said_of absent = kind.LeftOut
said_of (val d) = kind_of d

-- with what stands before it: a comma and, in an object, the key
abbrev pub labelled : List ℕ → Val → List ℕ
labelled label absent = []
labelled label (val d) = label ++ print_data d

-- a set's data, a value, and an entry
abbrev pub as_data : View Data
as_data = record { says = kind_of; show = print_data }

abbrev pub as_value : View Val
as_value = record { says = said_of; show = labelled [] }

abbrev pub as_entry : List ℕ → View Val
as_entry label = record { says = said_of; show = labelled label }

abbrev pub reach_of : Reach → Failure
reach_of here = Here
reach_of past_list = PastList

-- the same state with the text at another position
abbrev pub moved_to : State → ℕ → State
moved_to s at = record { at = at; errs = s.errs; choice = s.choice; top = s.top }

-- the run ended, with the outcome that has this number
pub record StopsWith (number : ℕ) (w : Completed) : Type 0 where
  pub outcome : Outcome
  pub is : w ≡ Err (Stop (code_of outcome))
  pub numbered : code_of outcome ≡ number

module _ {A : Type 0} where
  -- how a completion says of a run what it came to; a number is handed on, whichever it is
  abbrev pub answer_of : View A → Res A → Completed
  answer_of U (stop code log) = Err (Stop code)
  answer_of U (failed r log c) = Err (reach_of r)
  answer_of U (done a log c) = Ok (U.says a)

  -- The same of a run of the definition, which stops with an outcome's number and no other: `told_answer` (proofs/Told) leads to it from `Gives`.
  abbrev pub AnswerOf : View A → Res A → Completed → Type 0
  AnswerOf U (stop code log) w = StopsWith code w
  AnswerOf U (failed r log c) w = w ≡ Err (reach_of r)
  AnswerOf U (done a log c) w = w ≡ Ok (U.says a)

  -- what was done to the text: where the run stopped it is nobody's, and only as long as it was
  abbrev pub TextOf : View A → Res A → (text text' : List ℕ) (at at' : ℕ) → Type 0
  TextOf U (stop code log) text text' at at' = length text' ≡ length text
  TextOf U (failed r log c) text text' at at' = Wrote text text' at at' []
  TextOf U (done a log c) text text' at at' = Wrote text text' at at' (U.show a)

  abbrev pub log_of : Res A → Log
  log_of (stop code log) = log
  log_of (failed r log c) = log
  log_of (done a log c) = log

  -- the choices left; a run that stopped says nothing of them
  abbrev pub left_of : Choices → Res A → Choices
  left_of d (stop code log) = d
  left_of d (failed r log c) = c
  left_of d (done a log c) = c

-- the words of a log's records
abbrev pub noted : Log → List ℕ
noted log = words_of (records_of log)

-- The call came to x: from the state `s` and these buffers to the end `d` and those.
pub record Gives {A : Type 0} (U : View A) (cs text errors : List ℕ) (s : State) (x : Res A) (d : Done) (text' errors' : List ℕ) : Type 0 where
  pub what : d.what ≡ answer_of U x
  pub wrote : TextOf U x text text' s.at d.state.at
  pub noted : Wrote errors errors' s.errs d.state.errs (noted (log_of x))
  pub chosen : drop d.state.choice cs ≡ left_of (drop d.state.choice cs) x
