-- A field or an item goes on: it is done, or its list or object is. Assumes nothing.
use mathlib.Core.Path.{◌≡◌, refl, sym, ap, ◌∙◌}
use mathlib.Core.Bool.{Bool, not}
use mathlib.Core.List.{List, [], ◌∷◌, ◌++◌}
use Prim.Native.Nat.{ℕ, suc, ◌+◌, ◌<◌}
use native.Mathlib.Omega.{arith}
use lib.ListN.{drop}
use Rattle.rows.specs.declared.layout.Range.{Range}
use Rattle.codes.specs.Outcome.{most_segments}
use Rattle.graphql.specs.Run.{Choices, M, Res, pure, lowered, passed, ◌>>=◌, in_order}
use Rattle.graphql.specs.Data.{Val, val, list, entries}
use Rattle.graphql.specs.Lookup.{rows_in}
use Rattle.graphql.specs.Collect.{Group}
use Rattle.graphql.specs.Coerce.{Arguments}
use Rattle.graphql.specs.Request.{Request}
use Rattle.graphql.specs.Complete.{numbered, try_nullify, merge_selection_sets, complete_items, execute_selection_set}
use Rattle.planning.specs.Plans.{members_of, group_at}
use Rattle.walking.specs.Gives.{as_entry, Gives}
use Rattle.walking.specs.Settled.{settled}
use Rattle.walking.specs.Paths.{segment_of, path_of}
use Rattle.walking.specs.declared.path.Path.{Path}
use Rattle.walking.specs.declared.state.State.{State}
use Rattle.walking.specs.declared.state.Done.{Done}
use Rattle.walking.proofs.Ended.{text_long, try_settled}
use Rattle.resolving.specs.Steps.{doing, contained, Deepens, Steps}
use Rattle.resolving.specs.declared.field.Container.TheVariants as container
use Rattle.resolving.specs.declared.field.Deeper.{Deeper}
use Rattle.resolving.specs.declared.field.Step.{Step}
use Rattle.resolving.specs.declared.field.Step.TheVariants as step
use Rattle.execution.specs.Ends.{list_ended, object_ended, ListEnds, ObjectEnds}
use Rattle.execution.specs.Walk.{Ready, Opens, StepReady, ItemsReady, ObjectReady, StepDone, ItemsDone, ObjectDone, item_run}
use Rattle.execution.proofs.Frame.{left_same, left_less}

-- the path below, as `below` makes it
abbrev pub Below : Path → (last : ℕ) → Path → Type 0
Below path last down = (path_of down ≡ path_of path ++ (segment_of last ∷ [])) × (down.count ≡ path.count + 1)

module _ {Q : Request} {plans spans hints : List ℕ} {path : Path} {s : State} {plan group : ℕ} {begun : Step}
    (h : StepReady Q plans spans hints path s plan group begun) where
  -- It is finished.
  pub go_finished : {cs text errors : List ℕ} {d : Done} → begun ≡ step.Finished d
      → StepDone Q cs text errors plans spans hints path s plan group begun d text errors plans spans hints
  go_finished e = record {
    left = rw (rw e at h.began) (left_same (suc path.count) h.ready.standing);
    same_text = refl;
    same_errors = refl;
    goes = λ label before noted m st. (rw e at st).0;
  }

  module _ {dp : Deeper} (e : begun ≡ step.Deeper dp) where
    opens : Opens Q path (group_at Q.tables.selections plans plan group) s dp
    opens = rw e at h.began

    -- there is room for a path below
    pub go_roomy : path.count < most_segments
    go_roomy = opens.roomy

    module _ (down : Path) (b : Below path dp.last down) where
      ready_below : Ready Q plans spans hints down dp.state
      ready_below = record {
        sound = h.ready.sound;
        standing = rw opens.level h.ready.standing;
        small = h.ready.small;
        spaced = h.ready.spaced;
        hinted = h.ready.hinted;
        short = omega (arith, b.1, opens.roomy);
      }

      pub go_list_ready : {inner : ℕ} {nullable : Bool} {rows : Range} → dp.container ≡ container.List inner nullable rows
          → ItemsReady Q plans spans hints down dp.state plan group dp.asked rows
      go_list_ready f = record {
        ready = ready_below;
        grouped = rw opens.level h.grouped;
        asking = opens.asking;
        leads = rw f at opens.contains;
      }

      pub go_object_ready : {object : ℕ} {rows : Range} → dp.container ≡ container.Object object rows
          → ObjectReady Q plans spans hints down dp.state plan group object rows
      go_object_ready f = record {
        ready = ready_below;
        grouped = rw opens.level h.grouped;
        known = (rw f at opens.contains).0;
        leads = (rw f at opens.contains).1;
      }

-- ---- The list or the object is completed

-- of the path below, and of what is done there
module _ (Q : Request) (path : Path) (last : ℕ) (down : Path) (b : Below path last down) where
  doing_below : doing Q down.count ≡ doing Q (suc path.count)
  doing_below = ap (doing Q) (b.1 ∙ omega arith)

  list_whole : (g : Group) (args : Arguments) (inner : ℕ) (nullable non_null : Bool) (rows : Range) (k : Choices)
      → try_nullify non_null (contained Q (doing Q (suc path.count)) (container.List inner nullable rows) g args (path_of path ++ (segment_of last ∷ []))) k
      ≡ list_ended nullable non_null ((in_order (item_run Q down g args inner) (numbered 0 (rows_in rows)) >>= λ vs. pure (val (list (entries vs)))) k)
  unfolding complete_items passed
  list_whole g args inner nullable non_null rows k =
      rw (← b.0, ← doing_below) (try_settled non_null _ k ∙ ap (λ (x : Res Val). settled non_null (lowered x)) (try_settled (not nullable) _ k))

  object_whole : (g : Group) (args : Arguments) (object : ℕ) (non_null : Bool) (rows : Range) (k : Choices)
      → try_nullify non_null (contained Q (doing Q (suc path.count)) (container.Object object rows) g args (path_of path ++ (segment_of last ∷ []))) k
      ≡ object_ended non_null (execute_selection_set Q (doing Q down.count) object rows (merge_selection_sets Q (g.first ∷ g.more)) (path_of down) k)
  unfolding ◌>>=◌
  object_whole g args object non_null rows k = rw (← b.0, ← doing_below) (try_settled non_null _ k)

module _ {Q : Request} {plans spans hints : List ℕ} {path : Path} {s : State} {plan group : ℕ} {begun : Step}
    (h : StepReady Q plans spans hints path s plan group begun) {dp : Deeper} (e : begun ≡ step.Deeper dp) where
  level : s.top ≡ dp.state.top
  level = sym (opens h e).level

  -- The list.
  module _ {inner : ℕ} {nullable : Bool} {rows : Range} (f : dp.container ≡ container.List inner nullable rows) {down : Path} {cs text errors : List ℕ}
      {d : Done} {text1 errors1 plans1 spans1 hints1 : List ℕ}
      (q : ItemsDone Q cs text errors plans spans hints down dp.state plan group dp.asked inner rows d text1 errors1 plans1 spans1 hints1)
      (b : Below path dp.last down) {r : Done} {text2 : List ℕ} (n : ListEnds nullable dp.non_null s.at d text1 r text2) where
    list_goes : (label before noted : List ℕ) (m : M Val)
        → Steps Q cs label path (group_at Q.tables.selections plans plan group) before noted s m begun text errors
        → Gives (as_entry label) cs before noted s (m (drop s.choice cs)) r text2 errors1
    list_goes label before noted m st = go (rw e at st)
      where
        go : Deepens Q cs label path (group_at Q.tables.selections plans plan group) before noted s m dp text errors
            → Gives (as_entry label) cs before noted s (m (drop s.choice cs)) r text2 errors1
        go p =
            rw (
              p.is (drop s.choice cs),
              f,
              list_whole Q path dp.last down b (group_at Q.tables.selections plans plan group) p.args inner nullable dp.non_null rows
                  (drop s.choice cs),
            )
            (n.ends cs before text noted errors1 label s dp.state.at _ p.written
            (rw (p.unnoted, p.moved) at (q.completes p.args p.asks)))

    pub go_list : StepDone Q cs text errors plans spans hints path s plan group begun r text2 errors1 plans1 spans1 hints1
    go_list = record {
      left = rw (n.level, level) (left_less (suc path.count) (omega (arith, b.1)) q.left);
      same_text = n.long ∙ q.same_text;
      same_errors = q.same_errors;
      goes = list_goes;
    }

  -- The object.
  module _ {object : ℕ} {rows : Range} (f : dp.container ≡ container.Object object rows) {down : Path} {cs text errors : List ℕ} {d : Done}
      {text1 errors1 plans1 spans1 hints1 : List ℕ}
      (q : ObjectDone Q cs text errors plans spans hints down dp.state plan group object rows d text1 errors1 plans1 spans1 hints1)
      (b : Below path dp.last down) {r : Done} {text2 : List ℕ} (n : ObjectEnds dp.non_null s.at d text1 r text2) where
    object_goes : (label before noted : List ℕ) (m : M Val)
        → Steps Q cs label path (group_at Q.tables.selections plans plan group) before noted s m begun text errors
        → Gives (as_entry label) cs before noted s (m (drop s.choice cs)) r text2 errors1
    object_goes label before noted m st = go (rw e at st)
      where
        -- the fields of the group are the plan's
        merged : members_of plans plan group
            ≡ (group_at Q.tables.selections plans plan group).first ∷ (group_at Q.tables.selections plans plan group).more
        merged = h.grouped.planned.right.members group h.grouped.has

        go : Deepens Q cs label path (group_at Q.tables.selections plans plan group) before noted s m dp text errors
            → Gives (as_entry label) cs before noted s (m (drop s.choice cs)) r text2 errors1
        go p =
            rw (
              p.is (drop s.choice cs),
              f,
              object_whole Q path dp.last down b (group_at Q.tables.selections plans plan group) p.args object dp.non_null rows
                  (drop s.choice cs),
              ← merged,
            )
            (n.ends cs before text noted errors1 label s dp.state.at _ p.written (rw (p.unnoted, p.moved) at q.executes))

    pub go_object : StepDone Q cs text errors plans spans hints path s plan group begun r text2 errors1 plans1 spans1 hints1
    go_object = record {
      left = rw (n.level, level) (left_less (suc path.count) (omega (arith, b.1)) q.left);
      same_text = n.long ∙ text_long q.executes;
      same_errors = q.executes.noted.long;
      goes = object_goes;
    }
