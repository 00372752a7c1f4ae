-- The loop over the items of a list, with the plans that it leaves behind. Assumes nothing.
use mathlib.Core.Path.{◌≡◌, refl, ap, ◌∙◌}
use mathlib.Core.List.{List, [], ◌∷◌}
use Prim.Native.Nat.{ℕ, zero, suc, ◌+◌, ◌≤◌, ◌<◌}
use native.Mathlib.Omega.{arith}
use lib.ListN.{length, drop}
use Rattle.rows.specs.declared.layout.Range.{Range}
use Rattle.writing.specs.Wrote.{Closes}
use Rattle.graphql.specs.Run.{M}
use Rattle.graphql.specs.Data.{Val}
use Rattle.graphql.specs.Lookup.{rows_from, rows_in}
use Rattle.graphql.specs.Collect.{Group}
use Rattle.graphql.specs.Coerce.{Arguments}
use Rattle.graphql.specs.Request.{Request}
use Rattle.graphql.specs.Complete.{numbered}
use Rattle.planning.specs.Plans.{group_at}
use Rattle.walking.specs.Gives.{as_value, as_entry, moved_to, Gives}
use Rattle.walking.specs.declared.path.Path.{Path}
use Rattle.walking.specs.declared.state.State.{State}
use Rattle.walking.specs.declared.state.Kind.{Kind}
use Rattle.walking.specs.declared.state.Kind.TheVariants as kind
use Rattle.walking.specs.declared.state.Failure.{Failure}
use Rattle.std.specs.Prelude.{Ok, Err}
use Rattle.walking.specs.declared.state.Done.{Done}
use Rattle.walking.proofs.Items.{listing, Listing, listing_begin, listing_again, listing_lost, listing_ended}
use Rattle.walking.proofs.Ended.{text_long}
use Rattle.resolving.specs.Resolve.{Asks}
use Rattle.resolving.specs.Sound.{asking, Itemizable}
use Rattle.resolving.specs.Steps.{comma, Steps, CompletesItem}
use Rattle.resolving.specs.declared.resolve.Asked.{Asked}
use Rattle.resolving.specs.declared.field.Step.{Step}
use Rattle.resolving.specs.declared.field.Step.TheVariants as step
use Rattle.execution.specs.Walk.{Left, Began, StepReady, ItemsReady, StepDone, ItemsDone, item_run}
use Rattle.execution.proofs.Frame.{left_same, left_then, left_ready, left_group, left_grouped}

-- ---- Items by number

-- the items from a number on: the first of them, and the others
numbered_next : (k first n i : ℕ) → i < n → drop i (numbered k (rows_from first n)) ≡ (k + i, first + i) ∷ drop (suc i) (numbered k (rows_from first n))
unfolding numbered rows_from
numbered_next k first zero i l = absurd (omega arith)
numbered_next k first (suc n) zero l = let e : k + zero ≡ k = omega arith in let f : first + zero ≡ first = omega arith in rw (e, f)
numbered_next k first (suc n) (suc i) l =
    let e : k + suc i ≡ suc k + i = omega arith in
    let f : first + suc i ≡ suc first + i = omega arith in
    rw (e, f) (numbered_next (suc k) (suc first) n i (omega arith))

numbered_end : (k first n i : ℕ) → n ≤ i → drop i (numbered k (rows_from first n)) ≡ []
unfolding numbered rows_from
numbered_end k first zero zero l = refl
numbered_end k first zero (suc i) l = refl
numbered_end k first (suc n) zero l = absurd (omega arith)
numbered_end k first (suc n) (suc i) l = numbered_end (suc k) (suc first) n i (omega arith)

pub item_next : (rows : Range) (i : ℕ) → i < rows.count
    → drop i (numbered 0 (rows_in rows)) ≡ (i, rows.first + i) ∷ drop (suc i) (numbered 0 (rows_in rows))
unfolding rows_in
item_next rows i l = let e : 0 + i ≡ i = omega arith in rw e at (numbered_next 0 rows.first rows.count i l)

pub item_end : (rows : Range) (i : ℕ) → rows.count ≤ i → drop i (numbered 0 (rows_in rows)) ≡ []
unfolding rows_in
item_end rows i l = numbered_end 0 rows.first rows.count i l

-- ---- How far a field or an item went

module _ (Q : Request) (cs label : List ℕ) (path : Path) (g : Group) (text errors text' errors' : List ℕ) (s : State) (m : M Val) where
  pub steps_began : (begun : Step) → Steps Q cs label path g text errors s m begun text' errors' → Began Q path g s begun
  steps_began (step.Finished d) h = h.1
  steps_began (step.Deeper d) h = record {
    roomy = h.roomy;
    level = ap (λ (z : State). z.top) h.moved;
    contains = h.contains;
    asking = record { askable = h.askable; args = h.args; asks = h.asks };
  }

  pub steps_text : (begun : Step) → Steps Q cs label path g text errors s m begun text' errors' → length text' ≡ length text
  steps_text (step.Finished d) h = text_long h.0
  steps_text (step.Deeper d) h = h.written.long

  pub steps_errors : (begun : Step) → Steps Q cs label path g text errors s m begun text' errors' → length errors' ≡ length errors
  steps_errors (step.Finished d) h = h.0.noted.long
  steps_errors (step.Deeper d) h = ap length h.unnoted

-- ---- The loop

-- before the item of this number
pub record Itemizing (Q : Request) (cs text₀ errors₀ plans₀ spans₀ hints₀ : List ℕ) (path : Path) (s : State) (plan group : ℕ) (asked : Asked) (inner : ℕ)
    (rows : Range) (text errors plans spans hints : List ℕ) (state : State) (i : ℕ) : Type 0 where
  pub left : Left Q (suc path.count) plans₀ spans₀ hints₀ s.top plans spans hints state.top
  pub few : i ≤ rows.count
  pub same_text : length text ≡ length text₀
  pub same_errors : length errors ≡ length errors₀
  pub listing : let g = group_at Q.tables.selections plans₀ plan group in
      (args : Arguments) → Asks Q asked g args
      → Listing (item_run Q path g args inner) cs (numbered 0 (rows_in rows)) text₀ errors₀ s text errors state.at state.errs state.choice
      (drop i (numbered 0 (rows_in rows)))

module _ {Q : Request} {plans₀ spans₀ hints₀ : List ℕ} {path : Path} {s : State} {plan group : ℕ} {asked : Asked} {rows : Range}
    (h : ItemsReady Q plans₀ spans₀ hints₀ path s plan group asked rows) where
  pub items_begin : {cs text₀ errors₀ : List ℕ} {inner : ℕ}
      → Itemizing Q cs text₀ errors₀ plans₀ spans₀ hints₀ path s plan group asked inner rows text₀ errors₀ plans₀ spans₀ hints₀ s 0
  items_begin {cs} {text₀} {errors₀} {inner} = record {
    left = left_same (suc path.count) h.ready.standing;
    few = omega arith;
    same_text = refl;
    same_errors = refl;
    listing = λ args a. listing_begin (item_run Q path (group_at Q.tables.selections plans₀ plan group) args inner) cs (numbered 0 (rows_in rows)) text₀ errors₀ s;
  }

  -- what an item rests on
  pub items_itemizable : Itemizable Q.tables.types Q.tables.arguments Q.tables.nodes Q.tables.literals Q.tables.variables
      Q.tables.answers asked
  items_itemizable =
      let a = h.ready.sound.answerable in
      record {
        listed = a.listed;
        coercible = a.coercible;
        parted = a.parted;
        valued = a.valued;
        leads = a.leads;
        objects = a.objects;
        askable = h.asking.askable;
      }

  pub items_numbered : {i : ℕ} → i < rows.count → i < 4096
  items_numbered l = omega (arith, h.leads)

  -- No item is left, and the brackets are put.
  pub items_ended : {cs text₀ errors₀ text errors plans spans hints : List ℕ} {inner : ℕ} {state : State} {i : ℕ}
      → Itemizing Q cs text₀ errors₀ plans₀ spans₀ hints₀ path s plan group asked inner rows text errors plans spans hints state i
      → {text' : List ℕ} {end : ℕ} → rows.count ≤ i → Closes 91 93 text s.at state.at text' end
      → ItemsDone Q cs text₀ errors₀ plans₀ spans₀ hints₀ path s plan group asked inner rows
      (record { what = Ok kind.List; state = moved_to state end }) text' errors plans spans hints
  unfolding listing
  items_ended {cs} {text₀} {errors₀} {errors = errors} {inner = inner} {state = state} {i} v {text'} {end} l c = record {
    left = v.left;
    same_text = text_long (ended h.asking.args h.asking.asks);
    same_errors = v.same_errors;
    completes = ended;
  }
    where
      ended : (args : Arguments) → Asks Q asked (group_at Q.tables.selections plans₀ plan group) args → Gives as_value cs text₀ errors₀ s
          (listing (item_run Q path (group_at Q.tables.selections plans₀ plan group) args inner) [] (numbered 0 (rows_in rows)) (drop s.choice cs))
          (record { what = Ok kind.List; state = moved_to state end }) text' errors
      ended args a =
          listing_ended (item_run Q path (group_at Q.tables.selections plans₀ plan group) args inner) cs _ text₀ errors₀ s
          (rw (item_end rows i l) at (v.listing args a)) c

-- ---- A turn

module _ (pool names refs types members fields arguments sets selections given fragments nodes literals variables answers : List ℕ) where
  abbrev Q : Request
  Q = asking pool names refs types members fields arguments sets selections given fragments nodes literals variables answers

  module _ {plans₀ spans₀ hints₀ : List ℕ} {path : Path} {s : State} {plan group : ℕ} {asked : Asked} {rows : Range}
      (h : ItemsReady Q plans₀ spans₀ hints₀ path s plan group asked rows) {cs text₀ errors₀ : List ℕ} {inner : ℕ}
      {text errors plans spans hints : List ℕ} {state : State} {i : ℕ}
      (v : Itemizing Q cs text₀ errors₀ plans₀ spans₀ hints₀ path s plan group asked inner rows text errors plans spans hints state i)
      (l : i < rows.count) {begun : Step} {text1 errors1 : List ℕ} {row : ℕ} (e : row ≡ rows.first + i)
      (st : CompletesItem pool names refs types members fields arguments given nodes literals variables answers path i asked inner row text errors state begun
      text1 errors1) where
    abbrev g : Group
    g = group_at selections plans₀ plan group

    -- the group is still that of the plan
    same_group : group_at selections plans plan group ≡ g
    same_group = left_group v.left h.grouped.planned h.grouped.has

    stepped : (args : Arguments) → Asks Q asked g args
        → Steps Q cs comma path g text errors state (item_run Q path g args inner (i, rows.first + i)) begun text1 errors1
    stepped args a = rw e at (st.steps sets selections fragments cs g args a)

    -- what was begun may go on
    pub items_ready : StepReady Q plans spans hints path state plan group begun
    items_ready = record {
      ready = left_ready v.left path state refl h.ready.short h.ready;
      grouped = left_grouped v.left h.grouped;
      began = rw same_group
          (steps_began Q cs comma path g text errors text1 errors1 state (item_run Q path g h.asking.args inner (i, rows.first + i)) begun
          (stepped h.asking.args h.asking.asks));
    }

    module _ {d : Done} {text2 errors2 plans2 spans2 hints2 : List ℕ}
        (q : StepDone Q cs text1 errors1 plans spans hints path state plan group begun d text2 errors2 plans2 spans2 hints2) where
      gave : (args : Arguments) → Asks Q asked g args
          → Gives (as_entry comma) cs text errors state (item_run Q path g args inner (i, rows.first + i) (drop state.choice cs)) d text2 errors2
      gave args a = q.goes comma text errors (item_run Q path g args inner (i, rows.first + i)) (rw same_group (stepped args a))

      before : (args : Arguments) → Asks Q asked g args
          → Listing (item_run Q path g args inner) cs (numbered 0 (rows_in rows)) text₀ errors₀ s text errors state.at state.errs
          state.choice ((i, rows.first + i) ∷ drop (suc i) (numbered 0 (rows_in rows)))
      before args a = rw (item_next rows i l) at (v.listing args a)

      on : Left Q (suc path.count) plans₀ spans₀ hints₀ s.top plans2 spans2 hints2 d.state.top
      on = left_then (omega arith) v.left q.left

      long_text : length text2 ≡ length text₀
      long_text =
          q.same_text
          ∙ steps_text Q cs comma path g text errors text1 errors1 state (item_run Q path g h.asking.args inner (i, rows.first + i)) begun
          (stepped h.asking.args h.asking.asks)
          ∙ v.same_text

      long_errors : length errors2 ≡ length errors₀
      long_errors =
          q.same_errors
          ∙ steps_errors Q cs comma path g text errors text1 errors1 state (item_run Q path g h.asking.args inner (i, rows.first + i)) begun
          (stepped h.asking.args h.asking.asks)
          ∙ v.same_errors

      -- An item was completed.
      pub items_again : {k : Kind} → d.what ≡ Ok k
          → Itemizing Q cs text₀ errors₀ plans₀ spans₀ hints₀ path s plan group asked inner rows text2 errors2 plans2 spans2 hints2 d.state (i + 1)
      items_again e = let n : i + 1 ≡ suc i = omega arith in record {
        left = on;
        few = omega arith;
        same_text = long_text;
        same_errors = long_errors;
        listing = λ args a. rw n (listing_again (item_run Q path g args inner) cs _ text₀ errors₀ s (before args a) (gave args a) e);
      }

      -- One failed, and so does the list.
      pub items_lost : {f : Failure} → d.what ≡ Err f → ItemsDone Q cs text₀ errors₀ plans₀ spans₀ hints₀ path s plan group asked inner rows
          (record { what = d.what; state = moved_to d.state s.at }) text2 errors2 plans2 spans2 hints2
      unfolding listing
      items_lost e = record {
        left = on;
        same_text = long_text;
        same_errors = long_errors;
        completes = λ args a. listing_lost (item_run Q path g args inner) cs _ text₀ errors₀ s (before args a) (gave args a) e;
      }
