-- How a list and an object end, and a set that has a store to itself.
use Rattle.std.specs.Prelude.{◌≡◌, Bool, not, List, ℕ, length}
use Rattle.writing.specs.Wrote.{Wrote}
use Rattle.graphql.specs.Run.{Res, pure, onward, lowered}
use Rattle.graphql.specs.Data.{Data, Val, val}
use Rattle.walking.specs.Gives.{as_data, as_value, as_entry, moved_to, Gives}
use Rattle.walking.specs.Settled.{settled}
use Rattle.walking.specs.declared.state.State.{State}
use Rattle.walking.specs.declared.state.Done.{Done}

abbrev pub planned_to : State → ℕ → State
planned_to s top = record { at = s.at; errs = s.errs; choice = s.choice; top = top }

abbrev pub done_apart : Done → ℕ → Done
done_apart d top = record { what = d.what; state = planned_to d.state top }

-- the list, as the definition's `complete_items` and the place around it end it
abbrev pub list_ended : (nullable non_null : Bool) → Res Val → Res Val
list_ended nullable non_null x = settled non_null (lowered (settled (not nullable) x))

abbrev pub object_ended : (non_null : Bool) → Res Data → Res Val
object_ended non_null x = settled non_null (onward x (λ a. pure (val a)))

-- Whatever it was and whatever stands before it: written behind its label, it is an entry from `start` on.
pub record ListEnds (nullable non_null : Bool) (start : ℕ) (d : Done) (text : List ℕ) (r : Done) (text' : List ℕ) : Type 0 where
  pub level : r.state.top ≡ d.state.top
  pub long : length text' ≡ length text
  pub ends : (cs before text1 noted errors label : List ℕ) (s : State) (next : ℕ) (x : Res Val) → Wrote before text1 start next label
      → Gives as_value cs text1 noted (moved_to s next) x d text errors
      → Gives (as_entry label) cs before noted (moved_to s start) (list_ended nullable non_null x) r text' errors

pub record ObjectEnds (non_null : Bool) (start : ℕ) (d : Done) (text : List ℕ) (r : Done) (text' : List ℕ) : Type 0 where
  pub level : r.state.top ≡ d.state.top
  pub long : length text' ≡ length text
  pub ends : (cs before text1 noted errors label : List ℕ) (s : State) (next : ℕ) (x : Res Data) → Wrote before text1 start next label
      → Gives as_data cs text1 noted (moved_to s next) x d text errors
      → Gives (as_entry label) cs before noted (moved_to s start) (object_ended non_null x) r text' errors
