-- What becomes of a value that failed, and of an entry: what the functions of `settle` ensure.
use Rattle.std.specs.Prelude.{◌≡◌, Bool, true, false, List, ℕ, length}
use Rattle.writing.specs.Wrote.{Wrote, Writes}
use Rattle.graphql.specs.Run.{ErrorRecord, Res, caught}
use Rattle.graphql.specs.Data.{nulled, Val, val}
use Rattle.graphql.specs.Report.{record_words}
use Rattle.walking.specs.declared.state.State.{State}
use Rattle.walking.specs.declared.state.Failure.{Failure}
use Rattle.walking.specs.declared.state.Failure.TheVariants.{Here, PastList, Stop}
use Rattle.walking.specs.Gives.{Completed}
use Rattle.std.specs.Prelude.{Ok, Err}
use Rattle.walking.specs.declared.state.Done.{Done}
use Rattle.walking.specs.Gives.{as_value, as_entry, moved_to, Gives}

-- A failure with one record: the text stays, no choice is taken. `fails_gives` (proofs/Ended) says that it is the definition's, for any view: a field
-- over all of them would be too large for a contract.
pub record FailsWith (failure : Failure) (r : ErrorRecord) (errors : List ℕ) (s : State) (d : Done) (errors' : List ℕ) : Type 0 where
  pub what : d.what ≡ Err failure
  pub stays : d.state.at ≡ s.at
  pub unchosen : d.state.choice ≡ s.choice
  pub level : d.state.top ≡ s.top
  pub noted : Writes errors errors' s.errs d.state.errs (record_words r)

-- the definition's `try_nullify`, once the value has ended
abbrev pub settled : (non_null : Bool) → Res Val → Res Val
settled true x = x
settled false x = caught (val nulled) x

-- null is written where a value failed that may be null, whatever was done before
pub record Nullifies (non_null : Bool) (d : Done) (text : List ℕ) (r : Done) (text' : List ℕ) : Type 0 where
  pub level : r.state.top ≡ d.state.top
  pub long : length text' ≡ length text
  pub nullifies : (cs before errors errors' : List ℕ) (s : State) (x : Res Val)
      → Gives as_value cs before errors s x d text errors' → Gives as_value cs before errors s (settled non_null x) r text' errors'

-- a failure that has passed the list
abbrev pub lower : Failure → Failure
lower Here = Here
lower PastList = Here
lower (Stop code) = Stop code

abbrev pub lower_what : Completed → Completed
lower_what (Ok kind) = Ok kind
lower_what (Err failure) = Err (lower failure)

abbrev pub passed_list : Done → Done
passed_list d = record { what = lower_what d.what; state = d.state }

-- A value that was written behind its label is an entry from `start` on, whatever they are; it is taken back where there is no value.
pub record Settles (start : ℕ) (d r : Done) : Type 0 where
  pub level : r.state.top ≡ d.state.top
  pub settles : (cs text text1 text2 errors errors' label : List ℕ) (s : State) (next : ℕ) (x : Res Val) → Wrote text text1 start next label
      → Gives as_value cs text1 errors (moved_to s next) x d text2 errors' → Gives (as_entry label) cs text errors (moved_to s start) x r text2 errors'
