-- A plan in a store of its own: it is right, and no row of the store is taken for a head. Assumes nothing.
use mathlib.Core.Path.{◌≡◌, refl}
use mathlib.Core.List.{List}
use Prim.Native.Nat.{ℕ, ◌*◌, ◌≤◌, ◌<◌}
use native.Mathlib.Decide.{dec_le}
use native.Mathlib.Omega.{arith}
use lib.ListN.{length}
use Rattle.rows.specs.Document.{set_at}
use Rattle.codes.specs.Outcome.{most_open, most_collected}
use Rattle.graphql.specs.Lookup.{rows_in, selections_of}
use Rattle.graphql.specs.Collect.{none_yet}
use Rattle.graphql.specs.Request.{Request}
use Rattle.graphql.specs.Complete.{merge_selection_sets}
use Rattle.std.specs.Prelude.{Result, Ok, Err}
use Rattle.codes.specs.declared.outcome.Outcome.{Outcome}
use Rattle.collecting.specs.Collecting.{Collecting, CollectsRows}
use Rattle.collecting.specs.declared.collect.Gathered.{Gathered}
use Rattle.collecting.proofs.Shown.{shows_none}
use Rattle.planning.specs.Plans.{word_at, plan_end, Standing, Puttable, PutPlan, Gathers, Storable, PlansAlone, operation_of}
use Rattle.planning.specs.declared.plan.Plan.{Plan}
use Rattle.planning.proofs.Found.{Gathering, group_gathering, stopped_so, puttable, put_right}

nothing_stands : (Q : Request) (store : List ℕ) → Standing Q store 0
nothing_stands Q store = record { there = omega arith; heads = λ plan l h. absurd (omega arith) }

module _ {refs types members fields sets selections fragments nodes variables store : List ℕ} {object : ℕ} {set : Request → List ℕ}
    (w : Storable refs types fields sets selections fragments store object) {list : List ℕ} {r : Collecting}
    (c : Gathering types members sets selections fragments nodes variables set object r list) where
  pub alone_stopped : {o : Outcome} → r ≡ Err o
      → PlansAlone refs types members fields sets selections fragments nodes variables set object store (Err o) store
  alone_stopped e = record { sized = refl; comes = λ Q t. stopped_so c t (nothing_stands Q store) e }

  module _ {g : Gathered} (e : r ≡ Ok g) where
    pub alone_puttable : Puttable refs types fields selections list g.count 0 0 0 store
    alone_puttable = puttable c e w.fitting (omega (arith, w.room)) w.small (omega arith) (omega arith)

    module _ {s : Plan} {store' : List ℕ} (q : PutPlan refs types fields selections list g.count 0 0 0 0 object store s store') where
      there : 8 * plan_end store' 0 ≤ length store'
      there = omega (arith, q.ends, q.kept.sized, w.room)

      -- the head's first word is 0
      low : (row : ℕ) → row < plan_end store' 0 → Dec (row ≤ 0) → word_at store' row 0 < 32768
      low row l (yes x) = let z : row ≡ 0 = omega arith in rw (z, q.head) (omega arith)
      low row l (no x) = q.holds.low row (omega arith) l

      pub alone_made : PlansAlone refs types members fields sets selections fragments nodes variables set object store (Ok s) store'
      alone_made = record {
        sized = q.kept.sized;
        comes = λ Q t. rw q.is (record {
          further = omega arith;
          standing = record { there = there; heads = λ plan l h. absurd (omega (arith, low plan l (dec_le plan 0))) };
          right = put_right c e t there q;
        });
      }

-- what was collected of the operation's set
pub operation_gathering : {types members sets selections fragments nodes variables : List ℕ} {object : ℕ} {fresh list : List ℕ} {r : Collecting}
    → CollectsRows types members sets selections fragments nodes variables most_open object (set_at sets 0) fresh
    (record { visited = 0; count = 0 }) r list
    → length fresh ≡ most_collected
    → Gathering types members sets selections fragments nodes variables operation_of object r list
unfolding selections_of
operation_gathering {sets} {selections} {fragments} c l = record {
  rows = rows_in (set_at sets 0);
  same = λ Q s t. rw s;
  comes = c.collects none_yet (shows_none selections fragments l);
}

-- ---- beneath a group

module _ {refs types members fields sets selections fragments nodes variables store : List ℕ} {object : ℕ} {rows : List ℕ}
    (w : Storable refs types fields sets selections fragments store object) {fresh list : List ℕ} {r : Collecting}
    (c : Gathers types members sets selections fragments nodes variables object rows fresh r list) where
  abbrev Apart : (s : Result Plan Outcome) (store' : List ℕ) → Type 0
  Apart s store' =
      PlansAlone refs types members fields sets selections fragments nodes variables (λ Q. merge_selection_sets Q rows) object store s store'

  pub apart_stopped : {o : Outcome} → r ≡ Err o → Apart (Err o) store
  apart_stopped = alone_stopped w (group_gathering c)

  pub apart_puttable : {g : Gathered} → r ≡ Ok g → Puttable refs types fields selections list g.count 0 0 0 store
  apart_puttable = alone_puttable w (group_gathering c)

  pub apart_made : {g : Gathered} {s : Plan} {store' : List ℕ} → r ≡ Ok g
      → PutPlan refs types fields selections list g.count 0 0 0 0 object store s store' → Apart (Ok s) store'
  apart_made e q = alone_made w (group_gathering c) e q
