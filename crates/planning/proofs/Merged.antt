-- The child sets of several fields, one after the other, are collected as all their selections in a row would be. Assumes nothing.
use mathlib.Core.Path.{◌≡◌, refl, sym, ◌∙◌}
use mathlib.Core.Bool.{Bool, true, false, cond}
use mathlib.Core.List.{List, [], ◌∷◌, ◌++◌, append-nil, append_assoc}
use Prim.Native.Nat.{ℕ, zero, suc, ◌+◌, ◌*◌, ◌-◌, ◌≤◌, ◌<◌}
use native.Mathlib.Nat.{add-zero}
use native.Mathlib.Numerals.{add-one}
use native.Mathlib.Omega.{arith}
use lib.Dec.{eqb}
use lib.ListN.{length}
use borrow.Author.Tests.{eq-eqb, ne_eqb}
use Rattle.rows.specs.Document.{set_at, field_selection}
use Rattle.rows.specs.declared.layout.Range.{Range}
use Rattle.rows.specs.declared.document.FieldSelection.{FieldSelection}
use Rattle.std.specs.Prelude.{Ok, Err}
use Rattle.codes.specs.declared.outcome.Outcome.{Outcome}
use Rattle.codes.specs.Outcome.{code_of, most_open}
use Rattle.graphql.specs.Run.{Choices, Res, M, stop, failed, done, after, pure, onward, ◌>>=◌}
use Rattle.graphql.specs.Lookup.{rows_in, selections_of}
use Rattle.graphql.specs.Collect.{Collected, none_yet, collect_fields}
use Rattle.graphql.specs.Complete.{merge_selection_sets}
use Rattle.collecting.specs.Collecting.{Collecting, Collectable, GoesOn, CollectsRows, selection_done, rows_done}
use Rattle.collecting.specs.declared.collect.Gathered.{Gathered}
use Rattle.collecting.proofs.Shown.{shows_none}
use Rattle.collecting.proofs.Ends.{stays, went}
use Rattle.collecting.proofs.Walk.{collect_on, set_within}
use Rattle.planning.specs.Plans.{word_at, group_count, field_count, first_of, picked, fields_of, members_of, document, child_rows, CollectsChild, CollectsOwned, Gathers, Lookable, field_rows}

-- ---- one after the other

after_after : {A : Type 0} (u w : _) (x : Res A) → after u (after w x) ≡ after (u ++ w) x
unfolding after
after_after u w (stop s v) = rw append_assoc
after_after u w (failed r v c) = rw append_assoc
after_after u w (done a v c) = rw append_assoc

onward_after : {A B : Type 0} (w : _) (x : Res A) (f : A → M B) → onward (after w x) f ≡ after w (onward x f)
unfolding onward after
onward_after w (stop s v) f = refl
onward_after w (failed r v c) f = refl
onward_after w (done a v c) f = sym (after_after w v (f a c))

module _ (types members sets selections fragments nodes variables : List ℕ) (object : ℕ) where
  abbrev rows : List ℕ → Collected → M Collected
  rows list = rows_done types members sets selections fragments nodes variables most_open object list

  -- collecting two lists of selections, one behind the other
  pub collect_append : (a b : List ℕ) (c : Collected) (k : Choices) → rows (a ++ b) c k ≡ (rows a c >>= (λ d. rows b d)) k
  unfolding collect_fields onward ◌>>=◌ pure
  collect_append [] b c k = sym (went (pure c) (λ d. rows b d) c k refl)
  collect_append (row ∷ a) b c k = go (selection_done types members sets selections fragments nodes variables most_open object row c k)
      (collect_append a b)
    where
      go : (x : Res Collected) → ((d : Collected) (j : Choices) → rows (a ++ b) d j ≡ (rows a d >>= (λ e. rows b e)) j)
          → onward x (λ d. rows (a ++ b) d) ≡ onward (onward x (λ d. rows a d)) (λ e. rows b e)
      go (stop s w) h = refl
      go (failed r w j) h = refl
      go (done d w j) h = rw (onward_after w (rows a d j) (λ e. rows b e), h d j)

-- ---- the child sets

module _ (sets selections : List ℕ) where
  abbrev merged : List ℕ → List ℕ
  merged list = merge_selection_sets (document sets selections) list

  pub merge_more : (list : List ℕ) (row : ℕ) → merged (list ++ (row ∷ [])) ≡ merged list ++ child_rows sets selections row
  unfolding merge_selection_sets
  merge_more [] row = append-nil (child_rows sets selections row)
  merge_more (first ∷ list) row = rw (merge_more list row) (sym (append_assoc (child_rows sets selections first) (merged list)
      (child_rows sets selections row)))

  pub merge_picked : (row owner : ℕ → ℕ) (group n : ℕ)
      → merged (picked row owner group (suc n)) ≡ merged (picked row owner group n) ++ cond (eqb (owner n) group) (child_rows sets selections
      (row n)) []
  unfolding picked
  merge_picked row owner group n = go (eqb (owner n) group)
    where
      go : (b : Bool) → merged (cond b (picked row owner group n ++ (row n ∷ [])) (picked row owner group n))
          ≡ merged (picked row owner group n) ++ cond b (child_rows sets selections (row n)) []
      go true = merge_more (picked row owner group n) (row n)
      go false = sym (append-nil (merged (picked row owner group n)))

-- ---- one field

module _ (types members sets selections fragments nodes variables : List ℕ) (object : ℕ) {list : List ℕ} {g : Gathered} where
  pub child_none : (row : ℕ) {field : FieldSelection} → field ≡ field_selection selections row → field.set ≡ 0
      → CollectsChild types members sets selections fragments nodes variables object row list g (Ok g) list
  unfolding collect_fields
  child_none row e z =
      let y : (field_selection selections row).set ≡ 0 = rw (← e) z in
      stays selections fragments (rows types members sets selections fragments nodes variables object (child_rows sets selections row)) (λ c. c)
      (λ c s. (rw (eq-eqb (field_selection selections row).set 0 y), s))

  pub child_set_lem : (row : ℕ) {field : FieldSelection} {range : Range} {r : Collecting} {list' : List ℕ} → field ≡ field_selection selections row
      → (field.set ≡ 0 → ⊥)
      → range ≡ set_at sets field.set → CollectsRows types members sets selections fragments nodes variables most_open object range list g r list'
      → CollectsChild types members sets selections fragments nodes variables object row list g r list'
  unfolding selections_of
  child_set_lem row {field = f'} {range = range'} e n t q =
      let m : (field_selection selections row).set ≡ 0 → ⊥ = rw (← e) n in
      let is : child_rows sets selections row ≡ rows_in range' = child_is f' range' e m t in
      rw is q
    where
      child_is : (field : FieldSelection) (range : Range) → field ≡ field_selection selections row → ((field_selection selections row).set ≡ 0 → ⊥)
          → range ≡ set_at sets field.set → child_rows sets selections row ≡ rows_in range
      child_is field range e m t = rw (ne_eqb (field_selection selections row).set 0 m, ← e, ← t)

  pub owned_not : (plans : List ℕ) (row group : ℕ) {owner : ℕ} → owner ≡ word_at plans row 1 → (owner ≡ group → ⊥)
      → CollectsOwned types members sets selections fragments nodes variables plans object row group list g (Ok g) list
  unfolding collect_fields
  owned_not plans row group e n =
      let m : word_at plans row 1 ≡ group → ⊥ = rw (← e) n in
      stays selections fragments
      (rows types members sets selections fragments nodes variables object (cond (eqb (word_at plans row 1) group) (child_rows sets selections
      (word_at plans row 0)) []))
      (λ c. c) (λ c s. (rw (ne_eqb (word_at plans row 1) group m), s))

  pub owned_is : (plans : List ℕ) (row group : ℕ) {owner field : ℕ} {r : Collecting} {list' : List ℕ} → owner ≡ word_at plans row 1 → owner ≡ group
      → field ≡ word_at plans row 0 → CollectsChild types members sets selections fragments nodes variables object field list g r list'
      → CollectsOwned types members sets selections fragments nodes variables plans object row group list g r list'
  owned_is plans row group e n f q =
      let m : word_at plans row 1 ≡ group = rw (← e) n in
      rw (eq-eqb (word_at plans row 1) group m, ← f) q

-- the operation's set
module _ (types members sets selections fragments nodes variables : List ℕ) (object : ℕ) {list : List ℕ} {g : Gathered} where
  pub set_read : (row : ℕ) {range : Range} {r : Collecting} {list' : List ℕ} → range ≡ set_at sets row
      → CollectsRows types members sets selections fragments nodes variables most_open object range list g r list'
      → CollectsRows types members sets selections fragments nodes variables most_open object (set_at sets row) list g r list'
  set_read row e q = rw (← e) q

pub ruleset operation = (set_within, set_read)

pub ruleset child = (child_none, child_set_lem, set_within, owned_not, owned_is)

-- ---- the loop over the fields of a group

module _ (types members sets selections fragments nodes variables plans : List ℕ) (object first fields group : ℕ) (list₀ : List ℕ) where
  abbrev those : ℕ → List ℕ
  those n = fields_of plans first group n

  pub record Merging (list : List ℕ) (g : Gathered) (i : ℕ) : Type 0 where
    pub below : i ≤ fields
    pub kept : length list ≡ length list₀
    pub gone : GoesOn selections fragments
        (rows types members sets selections fragments nodes variables object (merged sets selections (those i)) none_yet) g list

  pub merging_begin : Collectable types sets fragments list₀ → Merging list₀ (record { visited = 0; count = 0 }) 0
  unfolding fields_of picked merge_selection_sets collect_fields pure
  merging_begin w = record {
    below = omega arith;
    kept = refl;
    gone = record { collected = none_yet; is = λ k. refl; shows = shows_none selections fragments w.room };
  }

  module _ {list list' : List ℕ} {g : Gathered} {i : ℕ} {r : Collecting} (a : Merging list g i) (l : i < fields)
      (q : CollectsOwned types members sets selections fragments nodes variables plans object (first + i) group list g r list') where
    abbrev next : List ℕ
    next = cond (eqb (word_at plans (first + i) 1) group) (child_rows sets selections (word_at plans (first + i) 0)) []

    onto : (k : Choices)
        → rows types members sets selections fragments nodes variables object (merged sets selections (those (i + 1))) none_yet k
        ≡ rows types members sets selections fragments nodes variables object next a.gone.collected k
    unfolding fields_of
    onto k =
        rw (add-one i, merge_picked sets selections (λ i. word_at plans (first + i) 0) (λ i. word_at plans (first + i) 1) group i)
        (collect_append types members sets selections fragments nodes variables object (merged sets selections (those i)) next none_yet k
        ∙ went _ (λ d. rows types members sets selections fragments nodes variables object next d) a.gone.collected k (a.gone.is k))

    pub merging_again : {g' : Gathered} → r ≡ Ok g' → Merging list' g' (i + 1)
    merging_again {g' = after'} e =
        let c : GoesOn selections fragments (rows types members sets selections fragments nodes variables object next
        a.gone.collected) after' list'
        = rw e at (q.collects a.gone.collected a.gone.shows) in
        record {
          below = omega arith;
          kept = q.kept ∙ a.kept;
          gone = record { collected = c.collected; is = λ k. onto k ∙ c.is k; shows = c.shows };
        }

    pub merging_stopped : {o : Outcome} → r ≡ Err o
        → Gathers types members sets selections fragments nodes variables object (those fields) list₀ (Err o) list'
    unfolding fields_of ◌>>=◌ onward
    merging_stopped {o = why} e =
        record { kept = q.kept ∙ a.kept; comes = all (code_of why) (rw e at (q.collects a.gone.collected a.gone.shows)) }
      where
        stop_on : (s k : _) (n d : ℕ)
            → rows types members sets selections fragments nodes variables object (merged sets selections (those n)) none_yet k ≡ stop s []
            → rows types members sets selections fragments nodes variables object (merged sets selections (those (n + d))) none_yet k ≡ stop s []
        stop_on s k n zero h = rw (add-zero n) h
        stop_on s k n (suc d) h =
            let e : n + suc d ≡ suc (n + d) = omega arith in
            rw (e, merge_picked sets selections (λ i. word_at plans (first + i) 0) (λ i. word_at plans (first + i) 1) group (n + d))
            (collect_append types members sets selections fragments nodes variables object (merged sets selections (those (n + d))) _ none_yet k
            ∙ rw (stop_on s k n d h))

        all : (s : ℕ) → ((k : Choices) → rows types members sets selections fragments nodes variables object next a.gone.collected k ≡ stop s [])
            → (k : Choices) → rows types members sets selections fragments nodes variables object (merged sets selections
            (those fields)) none_yet k ≡ stop s []
        all s h k =
            let e : fields ≡ (i + 1) + (fields - (i + 1)) = omega arith in
            rw e (stop_on s k (i + 1) (fields - (i + 1)) (onto k ∙ h k))

  pub merging_ended : {list : List ℕ} {g : Gathered} {i : ℕ} → Merging list g i → fields ≤ i
      → Gathers types members sets selections fragments nodes variables object (those fields) list₀ (Ok g) list
  merging_ended {i = i'} a l = let e : fields ≡ i' = omega (arith, a.below) in rw e (record { kept = a.kept; comes = a.gone })

pub ruleset merging = (collect_on, merging_begin, merging_again, merging_stopped, merging_ended)

-- ---- a group

module _ (types members sets selections fragments nodes variables plans : List ℕ) (object plan group : ℕ) {list list' : List ℕ} {r : Collecting}
    {groups fields : ℕ} (g : groups ≡ group_count plans plan) (f : fields ≡ field_count plans plan) where
  pub group_one : {row : ℕ} → Collectable types sets fragments list → groups ≡ fields → row ≡ first_of plans (plan + 1 + group)
      → CollectsChild types members sets selections fragments nodes variables object row list (record { visited = 0; count = 0 }) r list'
      → Gathers types members sets selections fragments nodes variables object (members_of plans plan group) list r list'
  unfolding members_of merge_selection_sets
  group_one {row = row'} w e t q =
      let m : group_count plans plan ≡ field_count plans plan = sym g ∙ (e ∙ f) in
      rw (eq-eqb (group_count plans plan) (field_count plans plan) m, ← t)
      (record {
        kept = q.kept;
        comes = rw (append-nil (child_rows sets selections row')) (q.collects none_yet (shows_none selections fragments
            w.room));
      })

  pub group_several : {first : ℕ} → (groups ≡ fields → ⊥) → first ≡ plan + 1 + groups
      → Gathers types members sets selections fragments nodes variables object
      (fields_of plans first group fields) list r list'
      → Gathers types members sets selections fragments nodes variables object (members_of plans plan group) list r list'
  unfolding members_of
  group_several {first = first'} n t q =
      let m : group_count plans plan ≡ field_count plans plan → ⊥ = λ e. n (g ∙ (e ∙ sym f)) in
      rw (ne_eqb (group_count plans plan) (field_count plans plan) m, ← f, ← g, ← t) q

module _ (plans : List ℕ) (plan group : ℕ) {groups fields : ℕ} (g : groups ≡ group_count plans plan) (f : fields ≡ field_count plans plan) where
  pub several_room : {first : ℕ} → Lookable plans plan group → (groups ≡ fields → ⊥) → first ≡ plan + 1 + groups → 8 * (first + fields) ≤ length plans
  unfolding field_rows
  several_room {first = first'} w n t =
      let m : group_count plans plan ≡ field_count plans plan → ⊥ = λ e. n (g ∙ (e ∙ sym f)) in
      let l : 8 * (plan + 1 + group_count plans plan + field_count plans plan) ≤ length plans
      = rw (ne_eqb (group_count plans plan) (field_count plans plan) m) at w.ends in
      omega arith

pub ruleset beneath = (group_one, group_several, several_room)
