-- A plan that is found, or made: for every request that has these tables. Assumes nothing.
use mathlib.Core.Path.{◌≡◌, refl, sym, ap, ◌∙◌}
use mathlib.Core.Bool.{Bool, true, ◌&&◌}
use mathlib.Core.List.{List, [], ◌∷◌}
use Prim.Native.Nat.{ℕ, ◌+◌, ◌*◌, ◌-◌, ◌≤◌, ◌<◌}
use native.Mathlib.Decide.{dec_le}
use native.Mathlib.Omega.{arith}
use lib.Dec.{eqb, ltb}
use lib.ListN.{length, take, length-take}
use borrow.Author.Tests.{eqb-true, ltb-true}
use Rattle.rows.proofs.Every.{and_left, and_right}
use Rattle.std.specs.Prelude.{Some, None, Result, Ok, Err}
use Rattle.codes.specs.declared.outcome.Outcome.{Outcome}
use Rattle.codes.specs.Outcome.{code_of, most_open}
use Rattle.graphql.specs.Run.{Choices, stop, after, pure, onward, ◌>>=◌}
use Rattle.graphql.specs.Collect.{none_yet, collect}
use Rattle.graphql.specs.Request.{Request}
use Rattle.graphql.specs.Complete.{merge_selection_sets}
use Rattle.collecting.specs.Collecting.{Collecting, Comes, rows_done}
use Rattle.collecting.specs.declared.collect.Gathered.{Gathered}
use Rattle.planning.specs.Plans.{word_at, plan_end, most_words, members_of, document, PlanOf, Head, Standing, Fitting, Puttable, PutPlan, Gathers, Lookable, Plannable, Lent, Made, Stopped, Planned, Planning, PlansFor, roomy}
use Rattle.planning.specs.declared.plan.Plan.{Plan}
use Rattle.planning.proofs.Standing.{members_on, groups_on, end_on, head_on}
use Rattle.planning.proofs.Definitions.{groups_length, groups_few}

-- only two of the tables matter
merge_is : (Q : Request) (rows : List ℕ) → merge_selection_sets Q rows ≡ merge_selection_sets (document Q.tables.sets Q.tables.selections) rows
unfolding merge_selection_sets
merge_is Q [] = refl
merge_is Q (row ∷ rest) = rw (merge_is Q rest)

-- what collecting the selections that a request of these tables has comes to, from nothing
pub record Gathering (types members sets selections fragments nodes variables : List ℕ) (set : Request → List ℕ) (object : ℕ) (r : Collecting)
    (list : List ℕ) : Type 0 where
  pub rows : List ℕ
  pub same : (Q : Request) → Q.tables.sets ≡ sets → Q.tables.selections ≡ selections → set Q ≡ rows
  pub comes : Comes selections fragments (rows_done types members sets selections fragments nodes variables most_open object rows none_yet) r list

pub group_gathering : {types members sets selections fragments nodes variables : List ℕ} {object : ℕ} {rows fresh list : List ℕ} {r : Collecting}
    → Gathers types members sets selections fragments nodes variables object rows fresh r list
    → Gathering types members sets selections fragments nodes variables (λ Q. merge_selection_sets Q rows) object r list
group_gathering {sets} {selections} {rows = rows'} c = record {
  rows = merge_selection_sets (document sets selections) rows';
  same = λ Q s t. merge_is Q rows' ∙ rw (s, t);
  comes = c.comes;
}

module _ {refs types members fields sets selections fragments nodes variables : List ℕ} where
  stops : {Q : Request} {set rows : List ℕ} (object code : ℕ) → Lent refs types members fields sets selections fragments nodes variables Q
      → set ≡ rows
      → ((k : Choices) → rows_done types members sets selections fragments nodes variables most_open object rows none_yet k ≡ stop code [])
      → (k : Choices) → collect Q.tables.types Q.tables.members Q.tables.sets Q.tables.selections Q.tables.fragments
      Q.tables.variables Q.tables.nodes object set k ≡ stop code []
  unfolding collect ◌>>=◌ onward
  stops object code t e h k =
      rw (e, t.same_types, t.same_members, t.same_sets, t.same_selections, t.same_fragments, t.same_nodes, t.same_variables, h k)

  module _ {set : Request → List ℕ} {object : ℕ} {r : Collecting} {list : List ℕ}
      (c : Gathering types members sets selections fragments nodes variables set object r list) where
    module _ {Q : Request} (t : Lent refs types members fields sets selections fragments nodes variables Q) {plans plans' : List ℕ} {top : ℕ}
        (a : Standing Q plans' top) where
      pub stopped_so : {o : Outcome} → r ≡ Err o → Stopped Q (set Q) plans top object (code_of o) plans'
      stopped_so {o = why} e =
          let d : Gathering types members sets selections fragments nodes variables set object (Err why) list = rw e at c in
          record { standing = a; stops = stops object (code_of why) t (d.same Q t.same_sets t.same_selections) d.comes }

    module _ {g : Gathered} (e : r ≡ Ok g) where
      -- what was gathered can be put
      pub puttable : {at parent group : ℕ} {plans : List ℕ} → Fitting refs types fields selections → 8 * (at + 256) ≤ length plans
          → length plans ≤ most_words → parent < most_words → group < most_words
          → Puttable refs types fields selections list g.count at parent group plans
      puttable fits room small p q =
          let d : Gathering types members sets selections fragments nodes variables set object (Ok g) list = rw e at c in
          record {
            fitting = fits;
            field = d.comes.shows.fields;
            few = d.comes.shows.few;
            listed = d.comes.shows.room;
            room = room;
            small = small;
            plan_small = p;
            group_small = q;
          }

      -- and a plan of it is right
      pub put_right : {Q : Request} {at by parent group : ℕ} {plans : List ℕ} {s : Plan} {plans' : List ℕ}
          → Lent refs types members fields sets selections fragments nodes variables Q → 8 * plan_end plans' at ≤ length plans'
          → PutPlan refs types fields selections list g.count at by parent group object plans s plans'
          → PlanOf Q plans' (plan_end plans' at) at object (set Q)
      unfolding collect ◌>>=◌ onward pure after
      put_right {Q} {at} {plans' = plans'} t there q =
          let d : Gathering types members sets selections fragments nodes variables set object (Ok g) list = rw e at c in
          record {
            ends = omega arith;
            there = there;
            few =
                let a = groups_length selections plans' at in
                let b = ap length q.holds.groups in
                let m = groups_few selections [] (take g.count list) in
                let n = length-take g.count list in
                omega (arith, a, b, m, n, d.comes.shows.few);
            collected = λ k.
                rw (d.same Q t.same_sets t.same_selections, t.same_types, t.same_members, t.same_sets, t.same_selections, t.same_fragments, t.same_nodes, t.same_variables, d.comes.is k, d.comes.shows.groups, ← q.holds.groups);
            rows = rw (t.same_refs, t.same_types, t.same_fields, t.same_selections) q.holds.rows;
            members = q.holds.members;
          }

-- ---- a plan behind those that stand

module _ (Q : Request) {plans : List ℕ} {top : ℕ} (parent group object : ℕ) (a : Standing Q plans top) where
  -- the plan that was found is the one
  pub found_right : {row : ℕ} {r : Bool} → r ≡ (ltb row top && (eqb (word_at plans row 0) (32768 + object) && (eqb
      (word_at plans row 3) parent && eqb (word_at plans row 4) group)))
      → r ≡ true → Made Q (merge_selection_sets Q (members_of plans parent group)) plans top object row top plans
  found_right {row = row'} e t =
      let all = sym e ∙ t in
      let l = ltb-true row' top (and_left (ltb row' top) _ all) in
      let words = and_right (ltb row' top) _ all in
      let w0 = eqb-true (word_at plans row' 0) (32768 + object) (and_left (eqb (word_at plans row' 0) (32768 + object)) _ words) in
      let others = and_right (eqb (word_at plans row' 0) (32768 + object)) _ words in
      let w3 = eqb-true (word_at plans row' 3) parent (and_left (eqb (word_at plans row' 3) parent) _ others) in
      let w4 = eqb-true (word_at plans row' 4) group (and_right (eqb (word_at plans row' 3) parent) _ others) in
      let z : 32768 + object - 32768 ≡ object = omega arith in
      record {
        further = omega arith;
        standing = a;
        right = rw (w0, z, w3, w4) at (a.heads row' l (omega arith)).right;
      }

  module _ {refs types members fields sets selections fragments nodes variables : List ℕ}
      (t : Lent refs types members fields sets selections fragments nodes variables Q)
      (w : Plannable refs types fields sets selections fragments plans top parent group object)
      (room : 8 * (top + 256) ≤ length plans)
      {fresh list : List ℕ} {g : Gathered} {r : Collecting}
      (c : Gathers types members sets selections fragments nodes variables object (members_of plans parent group) fresh r list)
      (o : r ≡ Ok g) {s : Plan} {plans' : List ℕ}
      (q : PutPlan refs types fields selections list g.count top (32768 + object) parent group object plans s plans') where
    abbrev end : ℕ
    end = plan_end plans' top

    there : 8 * end ≤ length plans'
    there = omega (arith, q.ends, q.kept.sized, room)

    right : PlanOf Q plans' end top object (merge_selection_sets Q (members_of plans parent group))
    right = put_right (group_gathering c) o t there q

    pub made_right : Planning Q (merge_selection_sets Q (members_of plans parent group)) plans top object (Ok (Some s)) plans'
    made_right = rw q.is (record {
      further = omega arith;
      standing = record { there = there; heads = λ plan l h. go plan l h (dec_le top plan) (dec_le plan top) };
      right = right;
    })
      where
        z : 32768 + object - 32768 ≡ object
        z = omega arith

        go : (plan : ℕ) → plan < end → 32768 ≤ word_at plans' plan 0 → Dec (top ≤ plan) → Dec (plan ≤ top) → Head Q plans' end plan
        go plan l h (no x) y = head_on q.kept Q plan end (omega arith) (omega arith) there (a.heads plan (omega arith) (rw (q.kept.same
            (8 * plan + 0) (omega arith)) at h))
        go plan l h (yes x) (no y) = absurd (let t = q.holds.low plan (omega arith) l in omega arith)
        go plan l h (yes x) (yes y) =
            let e : plan ≡ top = omega arith in
            rw e (record {
              behind = rw (q.parent, end_on q.kept parent w.ends) w.ends;
              group = rw (q.parent, q.of_group, groups_on q.kept parent w.ends) w.has;
              right = rw (q.head, z, q.parent, q.of_group, members_on q.kept parent w.ends group w.has) right;
            })

-- ---- whichever request has these tables

module _ {refs types members fields sets selections fragments nodes variables plans : List ℕ} {top parent group object : ℕ}
    (w : Plannable refs types fields sets selections fragments plans top parent group object) where
  pub plans_none : PlansFor refs types members fields sets selections fragments nodes variables plans top parent group object (Ok None) plans
  plans_none = record {
    kept = record { sized = refl; same = λ i l. refl };
    small_plan = λ made e. absurd (let z : ◌≡◌ {A = ℕ} 0 1 = cc in omega arith);
    comes = λ Q t a. a;
  }

  pub plans_found : {row : ℕ} {r : Bool}
      → r ≡ (ltb row top && (eqb (word_at plans row 0) (32768 + object) && (eqb (word_at plans row 3) parent && eqb (word_at plans row 4) group)))
      → r ≡ true
      → PlansFor refs types members fields sets selections fragments nodes variables plans top parent group object (Ok (Some (record { plan = row; top = top }))) plans
  plans_found {row = row'} e t =
      let l = ltb-true row' top (and_left (ltb row' top) _ (sym e ∙ t)) in
      record {
        kept = record { sized = refl; same = λ i l. refl };
        small_plan = λ made s. let m : made.plan ≡ row' = cc in omega (arith, w.there, w.small);
        comes = λ Q t' a. found_right Q parent group object a e t;
      }

  pub plans_stopped : {fresh list : List ℕ} {r : Collecting} {o : Outcome}
      → Gathers types members sets selections fragments nodes variables object (members_of plans parent group) fresh r list → r ≡ Err o
      → PlansFor refs types members fields sets selections fragments nodes variables plans top parent group object (Err o) plans
  plans_stopped c e = record {
    kept = record { sized = refl; same = λ i l. refl };
    small_plan = λ made s. absurd (let z : ◌≡◌ {A = ℕ} 0 1 = cc in omega arith);
    comes = λ Q t a. stopped_so (group_gathering c) t a e;
  }

  pub plans_made : {fresh list : List ℕ} {g : Gathered} {r : Collecting} {s : Plan} {plans' : List ℕ} → 8 * (top + 256) ≤ length plans
      → Gathers types members sets selections fragments nodes variables object (members_of plans parent group) fresh r list → r ≡ Ok g
      → PutPlan refs types fields selections list g.count top (32768 + object) parent group object plans s plans'
      → PlansFor refs types members fields sets selections fragments nodes variables plans top parent group object (Ok (Some s)) plans'
  plans_made {s = put} room c e q = record {
    kept = q.kept;
    small_plan = λ made s. let m : made ≡ put = cc in let n : made.plan ≡ top = rw (m, q.is) in omega (arith, w.there, w.small, room);
    comes = λ Q t a. made_right Q parent group object a t w room c e q;
  }

  pub gathered_puttable : {fresh list : List ℕ} {g : Gathered} {r : Collecting} → 8 * (top + 256) ≤ length plans
      → Gathers types members sets selections fragments nodes variables object (members_of plans parent group) fresh r list → r ≡ Ok g
      → Puttable refs types fields selections list g.count top parent group plans
  gathered_puttable room c e =
      puttable (group_gathering c) e w.fitting room w.small (omega (arith, w.ends, w.there, w.small)) (omega
      (arith, w.has, w.ends, w.there, w.small))

  pub plans_as : {r s : Planned} {plans' : List ℕ}
      → PlansFor refs types members fields sets selections fragments nodes variables plans top parent group object r plans'
      → r ≡ s → PlansFor refs types members fields sets selections fragments nodes variables plans top parent group object s plans'
  plans_as q e = rw (← e) q

  pub made_fits : {r : Result Plan Outcome} {plans' : List ℕ} {made : Plan}
      → PlansFor refs types members fields sets selections fragments nodes variables plans top parent group object (roomy r) plans'
      → r ≡ Ok made → made.plan < 4294967296
  made_fits {made = made'} q e = omega (arith, q.small_plan made' (rw e))

pub looking_there : {refs types fields sets selections fragments plans : List ℕ} {top parent group object : ℕ}
    → Plannable refs types fields sets selections fragments plans top parent group object → Lookable plans parent group
looking_there w = record { has = w.has; ends = omega (arith, w.ends, w.there); small = w.small }
