-- The set of an object answer: by the plan that there is, by one that is made, or by one that stands apart; or it cannot be collected. Assumes nothing.
use mathlib.Core.Path.{◌≡◌, refl}
use mathlib.Core.List.{List}
use Prim.Native.Nat.{ℕ, ◌*◌}
use native.Mathlib.Omega.{arith}
use lib.ListN.{length, drop}
use Rattle.rows.specs.declared.layout.Range.{Range}
use Rattle.graphql.specs.Run.{Choices, Res, halt, onward, ◌>>=◌}
use Rattle.graphql.specs.Request.{Request}
use Rattle.graphql.specs.Complete.{merge_selection_sets, execute_selection_set}
use Rattle.planning.specs.Plans.{Planned, roomy, members_of, Lent, Planning, Made, Stopped, Plannable, PlansFor, Lookable, Storable, beneath_group, PlansAlone}
use Rattle.std.specs.Prelude.{Some, None, Result, Ok}
use Rattle.codes.specs.Outcome.{code_of}
use Rattle.codes.specs.declared.outcome.Outcome.{Outcome}
use Rattle.planning.specs.declared.plan.Plan.{Plan}
use Rattle.walking.specs.Gives.{as_data, Gives}
use Rattle.walking.specs.Paths.{path_of}
use Rattle.walking.specs.declared.path.Path.{Path}
use Rattle.walking.specs.declared.state.State.{State}
use Rattle.walking.specs.declared.state.Failure.TheVariants.{Stop}
use Rattle.std.specs.Prelude.{Err}
use Rattle.walking.specs.declared.state.Done.{Done}
use Rattle.walking.proofs.Ended.{stopped_gives}
use Rattle.resolving.specs.Steps.{doing}
use Rattle.execution.specs.Ends.{planned_to, done_apart}
use Rattle.execution.specs.Walk.{Left, SetReady, ObjectReady, SetDone, ObjectDone}
use Rattle.execution.proofs.Frame.{kept_all, left_same, left_then, left_ready, left_grouped, left_members}

-- the tables of a request are its own
pub own_tables : (Q : Request)
    → Lent Q.tables.refs Q.tables.types Q.tables.members Q.tables.fields Q.tables.sets Q.tables.selections Q.tables.fragments
    Q.tables.nodes Q.tables.variables Q
own_tables Q = record {
  same_refs = refl;
  same_types = refl;
  same_members = refl;
  same_fields = refl;
  same_sets = refl;
  same_selections = refl;
  same_fragments = refl;
  same_nodes = refl;
  same_variables = refl;
}

-- a set that cannot be collected stops the run
stops : (Q : Request) (path : Path) (object : ℕ) (rows : Range) (set plans plans' : List ℕ) (top code : ℕ) → Stopped Q set plans top object code plans'
    → (k : Choices) → execute_selection_set Q (doing Q path.count) object rows set (path_of path) k ≡ halt code k
unfolding execute_selection_set ◌>>=◌ onward halt
stops Q path object rows set plans plans' top code p k = rw (p.stops k)

module _ {Q : Request} {plans spans hints : List ℕ} {path : Path} {s : State} {plan group object : ℕ} {rows : Range}
    (h : ObjectReady Q plans spans hints path s plan group object rows) where
  abbrev set : List ℕ
  set = merge_selection_sets Q (members_of plans plan group)

  -- a plan may be looked for, and made
  pub object_plannable : Plannable Q.tables.refs Q.tables.types Q.tables.fields Q.tables.sets Q.tables.selections
      Q.tables.fragments plans s.top plan group object
  object_plannable = record {
    fitting = h.ready.sound.fitting;
    collectable = h.ready.sound.collectable;
    known = h.known;
    has = h.grouped.has;
    ends = h.grouped.planned.right.ends;
    there = h.ready.standing.there;
    small = h.ready.small;
  }

  -- ---- In the plans' own store

  module _ {p : Planned} {plans1 : List ℕ} (hints1 : List ℕ)
      (f : PlansFor Q.tables.refs Q.tables.types Q.tables.members Q.tables.fields Q.tables.sets Q.tables.selections
      Q.tables.fragments Q.tables.nodes Q.tables.variables plans s.top plan group object p plans1)
      (sized : length hints1 ≡ length hints) where
    came : Planning Q set plans s.top object p plans1
    came = f.comes Q (own_tables Q) h.ready.standing

    -- There is a plan.
    module _ {own : Plan} (e : p ≡ Ok (Some own)) where
      made : Made Q set plans s.top object own.plan own.top plans1
      made = rw e at came

      left_made : Left Q path.count plans spans hints s.top plans1 spans hints1 own.top
      left_made = record {
        further = made.further;
        kept = f.kept;
        standing = made.standing;
        unspanned = kept_all spans (128 * path.count);
        hinted = sized;
      }

      pub object_set_ready : SetReady Q plans1 spans hints1 path (planned_to s own.top) own.plan object rows
      object_set_ready = record {
        ready = left_ready left_made path (planned_to s own.top) refl h.ready.short h.ready;
        planned = record { set = set; right = made.right };
        leads = h.leads;
      }

      pub object_set : {cs text errors text2 errors2 plans2 spans2 hints2 : List ℕ} {d : Done}
          → SetDone Q cs text errors plans1 spans hints1 path (planned_to s own.top) own.plan object rows d text2 errors2 plans2 spans2 hints2
          → ObjectDone Q cs text errors plans spans hints path s plan group object rows d text2 errors2 plans2 spans2 hints2
      object_set q = record { left = left_then (omega arith) left_made q.left; executes = gone (q.executes set made.right) }
        where
          gone : {cs text errors text2 errors2 : List ℕ} {x : Res _} {d : Done} → Gives as_data cs text errors (planned_to s own.top) x d text2 errors2
              → Gives as_data cs text errors s x d text2 errors2
          gone g = record { what = g.what; wrote = g.wrote; noted = g.noted; chosen = g.chosen }

    -- There is no room for one.
    module _ (e : p ≡ Ok None) where
      left_none : Left Q path.count plans spans hints s.top plans1 spans hints1 s.top
      left_none = record {
        further = omega arith;
        kept = f.kept;
        standing = rw e at came;
        unspanned = kept_all spans (128 * path.count);
        hinted = sized;
      }

      pub object_apart_ready : ObjectReady Q plans1 spans hints1 path s plan group object rows
      object_apart_ready = record {
        ready = left_ready left_none path s refl h.ready.short h.ready;
        grouped = left_grouped left_none h.grouped;
        known = h.known;
        leads = h.leads;
      }

      pub object_apart : {cs text errors text2 errors2 spans2 hints2 : List ℕ} {d : Done}
          → ObjectDone Q cs text errors plans1 spans hints1 path s plan group object rows d text2 errors2 plans1 spans2 hints2
          → ObjectDone Q cs text errors plans spans hints path s plan group object rows d text2 errors2 plans1 spans2 hints2
      object_apart q = record {
        left = left_then (omega arith) left_none q.left;
        executes = rw (left_members left_none h.grouped.planned h.grouped.has) at q.executes;
      }

    -- The set cannot be collected.
    pub object_stops : {cs text errors : List ℕ} {o : Outcome} {code : ℕ} {d : Done} → p ≡ Err o → code ≡ code_of o
        → d ≡ record { what = Err (Stop code); state = s }
        → ObjectDone Q cs text errors plans spans hints path s plan group object rows d text errors plans1 spans hints1
    object_stops {cs} {o = o} q c e = let t : Stopped Q set plans s.top object (code_of o) plans1 = rw q at came in rw (e, c) (record {
      left = record {
        further = omega arith;
        kept = f.kept;
        standing = t.standing;
        unspanned = kept_all spans (128 * path.count);
        hinted = sized;
      };
      executes = rw (stops Q path object rows set plans plans1 s.top (code_of o) t (drop s.choice cs)) (stopped_gives (code_of o));
    })

  -- ---- In a store of its own

  pub apart_lookable : Lookable plans plan group
  apart_lookable = record {
    has = h.grouped.has;
    ends = omega (arith, h.grouped.planned.right.ends, h.ready.standing.there);
    small = h.ready.small;
  }

  pub apart_storable : {store : List ℕ} → length store ≡ 2048
      → Storable Q.tables.refs Q.tables.types Q.tables.fields Q.tables.sets Q.tables.selections Q.tables.fragments store object
  apart_storable e = record {
    fitting = h.ready.sound.fitting;
    collectable = h.ready.sound.collectable;
    known = h.known;
    room = omega arith;
    small = omega arith;
  }

  module _ {p : Result Plan Outcome} {store store1 : List ℕ} (long : length store ≡ 2048)
      (f : PlansAlone Q.tables.refs Q.tables.types Q.tables.members Q.tables.fields Q.tables.sets Q.tables.selections
      Q.tables.fragments Q.tables.nodes Q.tables.variables (beneath_group plans plan group) object store p store1) where
    alone : Planning Q set store 0 object (roomy p) store1
    alone = f.comes Q (own_tables Q)

    module _ {own : Plan} (e : p ≡ Ok own) where
      made_alone : Made Q set store 0 object own.plan own.top store1
      made_alone = rw e at alone

      pub apart_set_ready : SetReady Q store1 spans hints path (planned_to s own.top) own.plan object rows
      apart_set_ready = record {
        ready = record {
          sound = h.ready.sound;
          standing = made_alone.standing;
          small = omega (arith, f.sized);
          spaced = h.ready.spaced;
          hinted = h.ready.hinted;
          short = h.ready.short;
        };
        planned = record { set = set; right = made_alone.right };
        leads = h.leads;
      }

      pub apart_set : {cs text errors text2 errors2 store2 spans2 hints2 : List ℕ} {d r : Done} → r ≡ done_apart d s.top
          → SetDone Q cs text errors store1 spans hints path (planned_to s own.top) own.plan object rows d text2 errors2 store2 spans2 hints2
          → ObjectDone Q cs text errors plans spans hints path s plan group object rows r text2 errors2 plans spans2 hints2
      apart_set e q = rw e (record {
        left = record {
          further = omega arith;
          kept = kept_all plans (8 * s.top);
          standing = h.ready.standing;
          unspanned = q.left.unspanned;
          hinted = q.left.hinted;
        };
        executes = gone (q.executes set made_alone.right);
      })
        where
          gone : {cs text errors text2 errors2 : List ℕ} {x : Res _} {d : Done} → Gives as_data cs text errors (planned_to s own.top) x d text2 errors2
              → Gives as_data cs text errors s x (done_apart d s.top) text2 errors2
          gone g = record { what = g.what; wrote = g.wrote; noted = g.noted; chosen = g.chosen }

    pub apart_stops : {cs text errors : List ℕ} {o : Outcome} {code : ℕ} {d : Done} → p ≡ Err o → code ≡ code_of o
        → d ≡ record { what = Err (Stop code); state = s }
        → ObjectDone Q cs text errors plans spans hints path s plan group object rows d text errors plans spans hints
    apart_stops {cs} {o = o} q c e = let t : Stopped Q set store 0 object (code_of o) store1 = rw q at alone in rw (e, c) (record {
      left = left_same path.count h.ready.standing;
      executes = rw (stops Q path object rows set store store1 0 (code_of o) t (drop s.choice cs)) (stopped_gives (code_of o));
    })
