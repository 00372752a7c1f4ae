-- A plan that is put stands for what was collected, and what stood before it still stands. Assumes nothing.
use mathlib.Core.Path.{◌≡◌, refl, sym, ◌∙◌}
use mathlib.Core.Bool.{Bool, true, false, cond}
use mathlib.Core.List.{List, [], ◌∷◌}
use Prim.Native.Nat.{ℕ, ◌+◌, ◌*◌, ◌-◌, ◌≤◌, ◌<◌}
use native.Mathlib.Decide.{dec_le}
use native.Mathlib.Omega.{arith}
use lib.Dec.{eqb}
use lib.ListN.{length, get_or, take}
use borrow.Author.Tests.{eq-eqb, ne_eqb}
use Rattle.graphql.specs.Request.{Request}
use Rattle.planning.specs.Plans.{word_at, group_count, field_count, first_of, field_rows, plan_end, Kept, picked, fields_of, members_of, group_of, group_at, groups_at, Holds, PlanOf, Head, Standing, owned, Grouping, PutFields, PutHead, Puttable, PutPlan}
use Rattle.planning.proofs.Grouped.{tabled_same, picked_same, row_same, row_on}

-- ---- words that are as before, in the rows of a plan

module _ {plans plans' : List ℕ} {top : ℕ} (p : Kept plans (8 * top) plans') where
  pub word_on : (row column : ℕ) → row < top → column < 8 → word_at plans' row column ≡ word_at plans row column
  word_on row column a b = p.same (8 * row + column) (omega arith)

  module _ (plan : ℕ) (e : plan_end plans plan ≤ top) where
    pub groups_on : group_count plans' plan ≡ group_count plans plan
    groups_on = word_on plan 1 (omega arith) (omega arith)

    pub fields_on : field_count plans' plan ≡ field_count plans plan
    fields_on = word_on plan 2 (omega arith) (omega arith)

    pub end_on : plan_end plans' plan ≡ plan_end plans plan
    end_on = rw (groups_on, fields_on)

    several : eqb (group_count plans plan) (field_count plans plan) ≡ false → plan_end plans plan
        ≡ plan + 1 + group_count plans plan + field_count plans plan
    unfolding field_rows
    several s = rw s

    pub members_on : (group : ℕ) → group < group_count plans plan → members_of plans' plan group ≡ members_of plans plan group
    unfolding members_of fields_of
    members_on group l = rw (groups_on, fields_on) (go (eqb (group_count plans plan) (field_count plans plan)) refl)
      where
        go : (b : Bool) → eqb (group_count plans plan) (field_count plans plan) ≡ b
            → cond b (first_of plans' (plan + 1 + group) ∷ []) (picked (λ i. word_at plans' (plan + 1 + group_count plans plan + i) 0)
            (λ i. word_at plans' (plan + 1 + group_count plans plan + i) 1) group (field_count plans plan))
            ≡ cond b (first_of plans (plan + 1 + group) ∷ []) (picked (λ i. word_at plans (plan + 1 + group_count plans plan + i) 0)
            (λ i. word_at plans (plan + 1 + group_count plans plan + i) 1) group (field_count plans plan))
        go true s = rw (word_on (plan + 1 + group) 0 (omega arith) (omega arith))
        go false s =
            let f : plan_end plans plan ≡ plan + 1 + group_count plans plan + field_count plans plan = several s in
            picked_same _ _ group _ _ (field_count plans plan)
            (λ i m. word_on (plan + 1 + group_count plans plan + i) 0 (omega arith) (omega arith))
            (λ i m. word_on (plan + 1 + group_count plans plan + i) 1 (omega arith) (omega arith))

    pub groups_at_on : (selections : List ℕ) → groups_at selections plans' plan ≡ groups_at selections plans plan
    groups_at_on selections =
        rw groups_on
        (tabled_same (group_at selections plans' plan) (group_at selections plans plan) 0 (group_count plans plan)
        (λ j a b. rw (word_on (plan + 1 + j) 0 (omega arith) (omega arith), members_on j (omega arith))))

  -- a plan that is right stays right
  pub plan_on : (Q : Request) {plan object : ℕ} {set : List ℕ} (top' : ℕ) → top ≤ top' → 8 * top' ≤ length plans'
      → PlanOf Q plans top plan object set → PlanOf Q plans' top' plan object set
  plan_on Q {plan} top' l m a = record {
    ends = rw (end_on plan a.ends) (omega (arith, a.ends));
    there = m;
    few = rw (groups_on plan a.ends) a.few;
    collected = λ k. a.collected k ∙ rw (groups_at_on plan a.ends Q.tables.selections);
    rows = λ group h. row_on (plan + 1 + group) (8 * top) p (omega (arith, a.ends, rw (groups_on plan a.ends) at h)) (a.rows group (rw
        (groups_on plan a.ends) at h));
    members = λ group h.
        let k : group < group_count plans plan = rw (groups_on plan a.ends) at h in
        rw (members_on plan a.ends group k, word_on (plan + 1 + group) 0 (omega (arith, a.ends)) (omega arith)) (a.members group k);
  }

  pub head_on : (Q : Request) (plan top' : ℕ) → plan < top → top ≤ top' → 8 * top' ≤ length plans' → Head Q plans top plan → Head Q plans' top' plan
  head_on Q plan top' l m n a =
      let w0 = word_on plan 0 l (omega arith) in
      let w3 = word_on plan 3 l (omega arith) in
      let w4 = word_on plan 4 l (omega arith) in
      let e : plan_end plans (word_at plans plan 3) ≤ top = omega (arith, a.behind) in
      record {
        behind = rw (w3, end_on (word_at plans plan 3) e) a.behind;
        group = rw (w3, w4, groups_on (word_at plans plan 3) e) a.group;
        right = rw (w0, w3, w4, members_on (word_at plans plan 3) e (word_at plans plan 4) a.group) (plan_on Q top' m n a.right);
      }

  -- what stood before still stands
  pub standing_on : (Q : Request) → 8 * top ≤ length plans' → Standing Q plans top → Standing Q plans' top
  standing_on Q m a = record {
    there = m;
    heads = λ plan l h. head_on Q plan top l (omega arith) m (a.heads plan l (rw (word_on plan 0 l (omega arith)) at h));
  }

-- ---- a plan that is put

module _ {refs types fields selections list : List ℕ} {object at groups count : ℕ} {start made owners : List ℕ}
    (a : Grouping refs types fields selections list object (at + 1) start made owners groups count) where
  module _ (plans : List ℕ) (gc : group_count plans at ≡ groups)
      (same : (group : ℕ) → group < groups → (column : ℕ) → column < 8 → word_at plans (at + 1 + group) column ≡ word_at made (at + 1 + group) column)
      (mem : (group : ℕ) → group < groups → members_of plans at group ≡ owned list owners group count)
      (low' : (row : ℕ) → at + 1 + groups ≤ row → row < plan_end plans at → word_at plans row 0 < 32768) where
    stands : Holds refs types fields selections object (take count list) plans at
    stands = record {
      groups = rw gc
          (tabled_same (group_at selections plans at) (λ group. group_of selections (first_of made (at + 1 + group))
          (owned list owners group count)) 0 groups
          (λ j x y. rw (same j (omega arith) 0 (omega arith), mem j (omega arith))) ∙ sym a.is);
      rows = λ group l. row_same (at + 1 + group) (same group (rw gc at l)) (a.rows group (rw gc at l));
      members = λ group l. rw (mem group (rw gc at l), same group (rw gc at l) 0 (omega arith)) (a.members group (rw gc at l));
      low = λ row l k. low row l k (dec_le (at + 1 + groups) row);
    }
      where
        low : (row : ℕ) → at < row → row < plan_end plans at → Dec (at + 1 + groups ≤ row) → word_at plans row 0 < 32768
        low row l k (yes x) = low' row x k
        low row l k (no x) =
            let e : row ≡ at + 1 + (row - (at + 1)) = omega arith in
            let m : row - (at + 1) < groups = omega arith in
            let t = (a.rows (row - (at + 1)) m).field.there in
            rw (e, same (row - (at + 1)) m 0 (omega arith)) (omega arith)

  module _ {by plan group : ℕ} (w : Puttable refs types fields selections list count at plan group start)
      {headed : List ℕ} (h : PutHead at by groups count plan group made headed) where
    abbrev kept_so : Kept start (8 * at) headed
    kept_so = record { sized = h.kept.sized ∙ a.kept.sized; same = λ i l. h.kept.same i l ∙ a.kept.same i (omega arith) }

    pub plan_single : groups ≡ count
        → PutPlan refs types fields selections list count at by plan group object start (record { plan = at; top = at + 1 + groups }) headed
    unfolding field_rows members_of
    plan_single e =
        let end : plan_end headed at ≡ at + 1 + groups = rw (h.is_groups, h.is_fields, eq-eqb groups count e) (omega arith) in
        record {
          kept = kept_so;
          is = rw end;
          ends = rw end (omega (arith, w.few, a.few));
          head = h.is_by;
          parent = h.is_plan;
          of_group = h.is_group;
          holds = stands headed h.is_groups (λ group l column b. h.behind (8 * (at + 1 + group) + column) (omega arith))
              (λ group l. rw (h.is_groups, h.is_fields, eq-eqb groups count e, h.behind (8 * (at + 1 + group) + 0) (omega arith)) (sym
              (a.single e group l)))
              (λ row l k. absurd (omega arith));
        }

    module _ {put : List ℕ} (n : groups ≡ count → ⊥) (q : PutFields list owners (at + 1 + groups) count headed put) where
      before_it : (i : ℕ) → i < 8 * (at + 1 + groups) → get_or put i 0 ≡ get_or headed i 0
      before_it i l = q.kept.same i l

      its_groups : group_count put at ≡ groups
      its_groups = before_it (8 * at + 1) (omega arith) ∙ h.is_groups

      its_fields : field_count put at ≡ count
      its_fields = before_it (8 * at + 2) (omega arith) ∙ h.is_fields

      its_end : plan_end put at ≡ at + 1 + groups + count
      unfolding field_rows
      its_end = rw (its_groups, its_fields, ne_eqb groups count n)

      its_members : (group : ℕ) → group < groups → members_of put at group ≡ owned list owners group count
      unfolding members_of fields_of
      its_members group l =
          rw (its_groups, its_fields, ne_eqb groups count n)
          (picked_same (λ i. word_at put (at + 1 + groups + i) 0) (λ i. word_at put (at + 1 + groups + i) 1) group (λ i. get_or list i 0)
          (λ i. get_or owners i 0) count
          (λ i m. q.fields i m) (λ i m. q.owns i m))

      pub plan_several : PutPlan refs types fields selections list count at by plan group object start (record { plan = at; top = at + 1 + groups + count }) put
      plan_several = record {
        kept = record { sized = q.kept.sized ∙ kept_so.sized; same = λ i l. before_it i (omega arith) ∙ kept_so.same i l };
        is = rw its_end;
        ends = rw its_end (omega (arith, w.few, a.few, n));
        head = before_it (8 * at + 0) (omega arith) ∙ h.is_by;
        parent = before_it (8 * at + 3) (omega arith) ∙ h.is_plan;
        of_group = before_it (8 * at + 4) (omega arith) ∙ h.is_group;
        holds = stands put its_groups
            (λ group l column b. before_it (8 * (at + 1 + group) + column) (omega arith) ∙ h.behind (8 * (at + 1 + group) + column) (omega arith))
            its_members low';
      }
        where
          low' : (row : ℕ) → at + 1 + groups ≤ row → row < plan_end put at → word_at put row 0 < 32768
          low' row l k =
              let e : row ≡ at + 1 + groups + (row - (at + 1 + groups)) = omega arith in
              let m : row - (at + 1 + groups) < count = omega (arith, its_end) in
              let t = (w.field (row - (at + 1 + groups)) m).there in
              rw (e, q.fields (row - (at + 1 + groups)) m) (omega arith)

pub ruleset planning' = (plan_single, plan_several)
