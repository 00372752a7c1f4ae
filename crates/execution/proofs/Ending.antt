-- How a list and an object end, by the functions of walking's `settle`. Assumes nothing.
use mathlib.Core.Path.{◌≡◌, ◌∙◌}
use mathlib.Core.Bool.{Bool, not}
use mathlib.Core.List.{List}
use Prim.Native.Nat.{ℕ}
use Rattle.walking.specs.Settled.{Nullifies, passed_list, Settles}
use Rattle.walking.specs.declared.state.Done.{Done}
use Rattle.walking.proofs.Ended.{lowered_gives, val_gives}
use Rattle.execution.specs.Ends.{ListEnds, ObjectEnds}

-- an entry of its own is null where it failed, and so is the place around it
pub list_ends : {nullable non_null other : Bool} {start : ℕ} {d d1 d2 d3 r : Done} {text text1 text2 : List ℕ} → other ≡ not nullable
    → Nullifies other d text d1 text1 → d2 ≡ passed_list d1 → Nullifies non_null d2 text1 d3 text2 → Settles start d3 r
    → ListEnds nullable non_null start d text r text2
list_ends {d1 = d1} o a p b c = record {
  level = c.level ∙ b.level ∙ rw p a.level;
  long = b.long ∙ a.long;
  ends = λ cs before text1 noted errors label s next x w g.
      c.settles _ _ _ _ _ _ _ s next _ w (b.nullifies _ _ _ _ _ _ (rw p (lowered_gives (rw o at (a.nullifies _ _ _ _ _ _ g)))));
}

pub object_ends : {non_null : Bool} {start : ℕ} {d d1 r : Done} {text text1 : List ℕ} → Nullifies non_null d text d1 text1 → Settles start d1 r
    → ObjectEnds non_null start d text r text1
object_ends b c = record {
  level = c.level ∙ b.level;
  long = b.long;
  ends = λ cs before text1 noted errors label s next x w g. c.settles _ _ _ _ _ _ _ s next _ w (b.nullifies _ _ _ _ _ _ (val_gives g));
}
