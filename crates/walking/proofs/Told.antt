-- What was answered of a part of a run is `AnswerOf` it: where it stopped, an outcome has the number. The parts of the definition stop so (graphql's
-- `Told`), and what the functions of `settle` and their callers make of an answer keeps it. Assumes nothing.
use mathlib.Core.Path.{◌≡◌, refl, sym, ap, ◌∙◌}
use mathlib.Core.Bool.{Bool, true, false}
use mathlib.Core.List.{List}
use Prim.Native.Nat.{ℕ}
use native.Mathlib.Omega.{arith}
use Rattle.codes.specs.declared.outcome.Outcome.{Outcome}
use Rattle.codes.specs.Outcome.{code_of}
use Rattle.graphql.specs.Run.{here, past_list, Choices, Res, stop, failed, done, M, caught, lowered, onward, pure, halt, after}
use Rattle.graphql.specs.Data.{Data, Val, val}
use Rattle.graphql.specs.Stops.{StopTold, Told}
use Rattle.walking.specs.declared.state.State.{State}
use Rattle.walking.specs.declared.state.Failure.TheVariants.{Stop}
use Rattle.std.specs.Prelude.{Err}
use Rattle.walking.specs.declared.state.Done.{Done}
use Rattle.walking.specs.Gives.{Completed, View, StopsWith, answer_of, AnswerOf, Gives}
use Rattle.walking.specs.Settled.{settled}

stops_by : {number : ℕ} {w w' : Completed} → StopsWith number w → w' ≡ Err (Stop number) → StopsWith number w'
stops_by h e = record { outcome = h.outcome; is = e ∙ ap (λ (n : ℕ). Err (Stop n)) (sym h.numbered); numbered = h.numbered }

module _ {A : Type 0} (U : View A) where
  -- to the answer that takes any number, and back where the number is an outcome's
  pub answer_by : (x : Res A) {w : Completed} → AnswerOf U x w → w ≡ answer_of U x
  answer_by (stop code log) h = h.is ∙ ap (λ (n : ℕ). Err (Stop n)) h.numbered
  answer_by (failed r log c) h = h
  answer_by (done a log c) h = h

  by_number : (x : Res A) {w : Completed} → StopTold x → w ≡ answer_of U x → AnswerOf U x w
  by_number (stop code log) t e = record { outcome = t.outcome; is = e ∙ ap (λ (n : ℕ). Err (Stop n)) (sym t.numbered); numbered = t.numbered }
  by_number (failed r log c) t e = e
  by_number (done a log c) t e = e

-- the definition's `halt`, with an outcome's number
pub stopped_answer : {A : Type 0} (U : View A) (o : Outcome) (c : Choices) → AnswerOf U (halt (code_of o) c) (Err (Stop (code_of o)))
unfolding halt
stopped_answer U o c = record { outcome = o; is = refl; numbered = refl }

-- What a function of the walk ensures of a part of the definition: it answered with its outcome.
pub told_answer : {A : Type 0} {U : View A} {cs text errors text' errors' : List ℕ} {s : State} {m : M A} {c : Choices} {d : Done}
    → Told m → Gives U cs text errors s (m c) d text' errors' → AnswerOf U (m c) d.what
told_answer {U = U} {c = c} h g = by_number U _ (h.told c) g.what

-- ---- What becomes of an answer

same_number : {m n : ℕ} {w : Completed} → w ≡ Err (Stop m) → w ≡ Err (Stop n) → m ≡ n
same_number e h = cc

stays : {A : Type 0} (U : View A) (x : Res A) {code : ℕ} {w : Completed} → AnswerOf U x w → w ≡ Err (Stop code) → StopsWith code w
stays U (stop number log) h e = record { outcome = h.outcome; is = h.is; numbered = same_number h.is e }
stays U (failed here log c) h e = absurd (let z : ◌≡◌ {A = ℕ} 0 1 = cc in omega arith)
stays U (failed past_list log c) h e = absurd (let z : ◌≡◌ {A = ℕ} 0 1 = cc in omega arith)
stays U (done a log c) h e = absurd (let z : ◌≡◌ {A = ℕ} 0 1 = cc in omega arith)

-- the same answer, where it is that of another computation too, of which x is a part
pub kept_answer : {A B : Type 0} (U : View A) (V : View B) (x : Res A) (y : Res B) {w : Completed} → AnswerOf U x w → w ≡ answer_of V y → AnswerOf V y w
kept_answer U V x (stop code log) h e = stays U x h e
kept_answer U V x (failed r log c) h e = e
kept_answer U V x (done a log c) h e = e

-- another view of the same: an entry, once its value has settled
pub viewed_answer : {A : Type 0} (U V : View A) (x : Res A) (w : Completed) {w' : Completed} → AnswerOf U x w → w' ≡ answer_of V x → AnswerOf V x w'
viewed_answer U V (stop code log) w h e = stops_by h e
viewed_answer U V (failed r log c) w h e = e
viewed_answer U V (done a log c) w h e = e

-- null where it failed and may be null
pub settled_answer : (U V : View Val) (b : Bool) (x : Res Val) (w : Completed) {w' : Completed} → AnswerOf U x w → w' ≡ answer_of V (settled b x)
    → AnswerOf V (settled b x) w'
unfolding caught
settled_answer U V true x w h e = viewed_answer U V x w h e
settled_answer U V false (stop code log) w h e = stops_by h e
settled_answer U V false (failed here log c) w h e = e
settled_answer U V false (failed past_list log c) w h e = e
settled_answer U V false (done v log c) w h e = e

-- a failure that has passed the list
pub lowered_answer : {A : Type 0} (U V : View A) (x : Res A) (w : Completed) {w' : Completed} → AnswerOf U x w → w' ≡ answer_of V (lowered x)
    → AnswerOf V (lowered x) w'
unfolding lowered
lowered_answer U V (stop code log) w h e = stops_by h e
lowered_answer U V (failed r log c) w h e = e
lowered_answer U V (done a log c) w h e = e

-- an object's data, as a value
pub val_answer : (U : View Data) (V : View Val) (x : Res Data) (w : Completed) {w' : Completed} → AnswerOf U x w
    → w' ≡ answer_of V (onward x (λ a. pure (val a))) → AnswerOf V (onward x (λ a. pure (val a))) w'
unfolding onward pure after
val_answer U V (stop code log) w h e = stops_by h e
val_answer U V (failed r log c) w h e = e
val_answer U V (done a log c) w h e = e
