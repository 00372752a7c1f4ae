-- The loop over the groups of a set, with the plans that it leaves behind. Assumes nothing.
use mathlib.Core.Path.{◌≡◌, refl, sym, ◌∙◌}
use mathlib.Core.List.{List, []}
use Prim.Native.Nat.{ℕ, ◌+◌, ◌*◌, ◌≤◌, ◌<◌}
use native.Mathlib.Omega.{arith}
use lib.ListN.{length, drop, get_or}
use Rattle.rows.specs.Names.{name_text}
use Rattle.rows.specs.declared.layout.Range.{Range}
use Rattle.writing.specs.Wrote.{Closes}
use Rattle.graphql.specs.Run.{Res}
use Rattle.graphql.specs.Data.{Data}
use Rattle.graphql.specs.Collect.{Group}
use Rattle.graphql.specs.Request.{Request}
use Rattle.graphql.specs.Complete.{execute_selection_set}
use Rattle.planning.specs.Plans.{group_count, groups_at, PlanOf}
use Rattle.planning.proofs.Definitions.{groups_length, groups_get}
use Rattle.walking.specs.Gives.{as_entry, moved_to, Gives}
use Rattle.walking.specs.Settled.{passed_list}
use Rattle.walking.specs.Paths.{path_of}
use Rattle.walking.specs.declared.path.Path.{Path}
use Rattle.walking.specs.declared.state.State.{State}
use Rattle.walking.specs.declared.state.Kind.{Kind}
use Rattle.walking.specs.declared.state.Kind.TheVariants as kind
use Rattle.walking.specs.declared.state.Failure.{Failure}
use Rattle.std.specs.Prelude.{Ok, Err}
use Rattle.walking.specs.declared.state.Done.{Done}
use Rattle.walking.proofs.Ended.{text_long}
use Rattle.walking.proofs.RunLaws.{bind_at}
use Rattle.walking.proofs.Groups.{whole}
use Rattle.ordering.specs.Spans.{Clears, Tally, next_group, past_choice, Puts}
use Rattle.ordering.proofs.Turns.{Turning, turning_begin, turning_ended, turning_tally, turning_there, turning_room, turning_lost, turning_again}
use Rattle.resolving.specs.Steps.{doing}
use Rattle.execution.specs.Walk.{Ready, Left, SetReady, FieldReady, SetDone, FieldDone}
use Rattle.execution.proofs.Frame.{kept_then, left_same, left_then, left_ready, left_planned, left_count, left_group}
use Rattle.execution.proofs.Entering.{group_run, group_label}

-- a group that there is not
abbrev pub none' : Group
none' = record { key = 0; first = 0; more = [] }

-- the set of a plan, once its groups are collected
abbrev key_of : Request → Group → List ℕ
key_of Q g = name_text Q.tables.pool Q.tables.names g.key

abbrev entire : (Q : Request) (cs text₀ errors₀ plans₀ : List ℕ) (path : Path) (s : State) (plan object : ℕ) (rows : Range) → Res Data
entire Q cs text₀ errors₀ plans₀ path s plan object rows =
    whole (group_run Q path object rows) (key_of Q) none' cs (groups_at Q.tables.selections plans₀ plan) (path_of path) text₀ errors₀ s

-- So many groups are taken, the first `low` among them.
pub record Grouping (Q : Request) (cs text₀ errors₀ plans₀ spans₀ hints₀ : List ℕ) (path : Path) (s : State) (plan object : ℕ) (rows : Range)
    (text errors plans spans hints : List ℕ) (state : State) (groups base low taken : ℕ) : Type 0 where
  pub left : Left Q path.count plans₀ spans₀ hints₀ s.top plans spans hints state.top
  pub based : base ≡ 128 * path.count
  pub counted : groups ≡ group_count plans₀ plan
  pub same_text : length text ≡ length text₀
  pub same_errors : length errors ≡ length errors₀
  pub turning : Turning (group_run Q path object rows) (λ g. name_text Q.tables.pool Q.tables.names g.key) none' cs
      (groups_at Q.tables.selections plans₀ plan) (path_of path) text₀ errors₀ s spans text errors state.at state.errs state.choice base groups
      low taken

module _ {Q : Request} {plans₀ spansE hints₀ : List ℕ} {path : Path} {s : State} {plan object : ℕ} {rows : Range}
    (h : SetReady Q plans₀ spansE hints₀ path s plan object rows) where
  -- the plan's head is there
  pub set_there : 8 * plan + 1 < length plans₀
  set_there = omega (arith, h.planned.right.ends, h.planned.right.there)

  -- a plan that is right for some selections has their groups
  set_whole : (cs text₀ errors₀ set : List ℕ) → PlanOf Q plans₀ s.top plan object set
      → execute_selection_set Q (doing Q path.count) object rows set (path_of path) (drop s.choice cs)
      ≡ entire Q cs text₀ errors₀ plans₀ path s plan object rows
  unfolding execute_selection_set
  set_whole cs text₀ errors₀ set p = bind_at _ _ (drop s.choice cs) (p.collected (drop s.choice cs))

  -- both buffers stay as long as they were
  module _ {cs text errors text' errors' plans' spans' hints' : List ℕ} {r : Done}
      (q : SetDone Q cs text errors plans₀ spansE hints₀ path s plan object rows r text' errors' plans' spans' hints') where
    pub set_text : length text' ≡ length text
    set_text = text_long (q.executes h.planned.set h.planned.right)

    pub set_errors : length errors' ≡ length errors
    set_errors = (q.executes h.planned.set h.planned.right).noted.long

  module _ {groups base : ℕ} (n : groups ≡ group_count plans₀ plan) (b : base ≡ 128 * path.count) where
    -- there are spans for the groups
    pub set_spans : base + groups ≤ length spansE
    set_spans = omega (arith, h.planned.right.few, h.ready.spaced, h.ready.short)

    module _ {spans₀ : List ℕ} (c : Clears spansE base groups spans₀) where
      pub set_begin : {cs text₀ errors₀ : List ℕ}
          → Grouping Q cs text₀ errors₀ plans₀ spans₀ hints₀ path s plan object rows text₀ errors₀ plans₀ spans₀ hints₀ s groups base 0 0
      set_begin {cs} {text₀} {errors₀} = record {
        left = left_same path.count h.ready.standing;
        based = b;
        counted = n;
        same_text = refl;
        same_errors = refl;
        turning = turning_begin (group_run Q path object rows) (key_of Q) none' cs _ (path_of path) text₀ errors₀ s (n ∙ sym (groups_length _ plans₀ plan))
            (omega (arith, h.planned.right.few)) (omega (arith, h.ready.spaced, h.ready.short)) c;
      }

      -- the spans were cleared before
      since : {plans spans hints : List ℕ} {top : ℕ} → Left Q path.count plans₀ spans₀ hints₀ s.top plans spans hints top
          → Left Q path.count plans₀ spansE hints₀ s.top plans spans hints top
      since l = record {
        further = l.further;
        kept = l.kept;
        standing = l.standing;
        unspanned = kept_then (128 * path.count) (128 * path.count) (omega arith)
            (record { sized = c.around.sized; same = λ i k. c.around.same i (omega arith) }) l.unspanned;
        hinted = l.hinted;
      }

      ready : Ready Q plans₀ spans₀ hints₀ path s
      ready = record {
        sound = h.ready.sound;
        standing = h.ready.standing;
        small = h.ready.small;
        spaced = c.around.sized ∙ h.ready.spaced;
        hinted = h.ready.hinted;
        short = h.ready.short;
      }

      -- ---- A turn

      module _ {cs text₀ errors₀ text errors plans spans hints : List ℕ} {state : State} {low taken : ℕ}
          (v : Grouping Q cs text₀ errors₀ plans₀ spans₀ hints₀ path s plan object rows text errors plans spans hints state groups base low taken) where
        -- No group is left, and the brackets are put.
        pub set_ended : {text' : List ℕ} {end : ℕ} → groups ≤ taken → Closes 123 125 text s.at state.at text' end
            → SetDone Q cs text₀ errors₀ plans₀ spansE hints₀ path s plan object rows
            (record { what = Ok kind.Object; state = moved_to state end }) text' errors plans spans hints
        set_ended l close = record {
          left = since v.left;
          executes = λ set p. rw (set_whole cs text₀ errors₀ set p) (turning_ended _ _ _ _ _ _ _ _ _ v.turning l close);
        }

        module _ (lt : taken < groups) where
          pub set_tally : Tally spans base groups low taken
          set_tally = turning_tally _ _ _ _ _ _ _ _ _ v.turning lt

          module _ {i : ℕ} (nx : i ≡ next_group spans cs base groups taken state.choice) where
            there : i < groups
            there = turning_there _ _ _ _ _ _ _ _ _ v.turning lt nx

            has : i < group_count plans₀ plan
            has = omega (arith, there, n)

            -- the group's field may be entered
            pub set_field_ready : {next : State} → next.top ≡ state.top → FieldReady Q plans spans hints path next plan i object rows
            set_field_ready {next} e = record {
              ready = left_ready v.left path next e h.ready.short ready;
              planned = rw e (left_planned v.left h.planned);
              has = rw (left_count v.left h.planned) has;
              leads = h.leads;
            }

            module _ {ch : ℕ} (e : ch ≡ past_choice cs state.choice) {d : Done} {text2 errors2 plans2 spans2 hints2 : List ℕ}
                (q : FieldDone Q cs text errors plans spans hints path
                (record { at = state.at; errs = state.errs; choice = ch; top = state.top }) plan i object rows d text2 errors2 plans2 spans2 hints2)
              where
                its : Gives (as_entry (group_label Q (get_or (groups_at Q.tables.selections plans₀ plan) i none'))) cs text errors
                    (record { at = state.at; errs = state.errs; choice = ch; top = state.top })
                    (group_run Q path object rows (get_or (groups_at Q.tables.selections plans₀ plan) i none') (drop ch cs)) d text2 errors2
                its =
                    as_group _ _ (left_group v.left h.planned has ∙ sym (groups_get Q.tables.selections plans₀ plan i none' has)) q.enters
                  where
                    as_group : (g g' : Group) → g ≡ g'
                        → Gives (as_entry (group_label Q g)) cs text errors (record { at = state.at; errs = state.errs; choice = ch; top = state.top })
                        (group_run Q path object rows g (drop ch cs)) d text2 errors2
                        → Gives (as_entry (group_label Q g')) cs text errors (record { at = state.at; errs = state.errs; choice = ch; top = state.top })
                        (group_run Q path object rows g' (drop ch cs)) d text2 errors2
                    as_group g g' e k = rw (← e) k

                on : Left Q path.count plans₀ spans₀ hints₀ s.top plans2 spans2 hints2 d.state.top
                on = left_then (omega arith) v.left q.left

                -- Its span is there.
                pub set_room : base + i < length spans2
                set_room = turning_room _ _ _ _ _ _ _ _ _ v.turning lt nx spans2 q.left.unspanned.sized

                -- The set is given up.
                pub set_lost : {f : Failure} → d.what ≡ Err f
                    → SetDone Q cs text₀ errors₀ plans₀ spansE hints₀ path s plan object rows
                    (passed_list (record { what = d.what; state = moved_to d.state s.at })) text2 errors2 plans2 spans2 hints2
                set_lost f = record {
                  left = since on;
                  executes = λ set p. rw (set_whole cs text₀ errors₀ set p) (turning_lost _ _ _ _ _ _ _ _ _ v.turning lt nx e its f);
                }

                -- The entry goes to its place.
                pub set_again : {k : Kind} → d.what ≡ Ok k → {text3 spans3 : List ℕ} {low' : ℕ} → length text3 ≡ length text2
                    → Puts text2 spans2 base i low taken s.at state.at d.state.at low' text3 spans3
                    → Grouping Q cs text₀ errors₀ plans₀ spans₀ hints₀ path s plan object rows text3 errors2 plans2 spans3 hints2 d.state groups base low'
                    (taken + 1)
                set_again w long p = record {
                  left = record {
                    further = on.further;
                    kept = on.kept;
                    standing = on.standing;
                    unspanned = kept_then (128 * path.count) base (omega (arith, v.based)) on.unspanned
                        (record { sized = p.around.sized; same = p.around.same });
                    hinted = on.hinted;
                  };
                  based = v.based;
                  counted = v.counted;
                  same_text = long ∙ text_long its ∙ v.same_text;
                  same_errors = its.noted.long ∙ v.same_errors;
                  turning =
                      turning_again _ _ _ _ _ _ _ _ _ v.turning lt nx e its w q.left.unspanned.sized
                      (λ j l. q.left.unspanned.same j (omega (arith, v.based))) p;
                }
