-- The loop over the groups of a set, as this crate's functions go through it: what holds at its head, and the turn, the way out and the end. The spans
-- say which slots are empty, and where the entry of one begins. Assumes nothing.
use mathlib.Core.Path.{◌≡◌, refl, sym, ap, ◌∙◌}
use mathlib.Core.Bool.{cond}
use Rattle.std.specs.Prelude.{Option, Some, None, Ok, Err}
use mathlib.Core.List.{List, []}
use Prim.Native.Nat.{ℕ, suc, ◌+◌, ◌-◌, ◌≤◌, ◌<◌}
use native.Mathlib.Omega.{arith}
use native.Mathlib.Decide.{dec_le, dec_lt, ℕ_discrete}
use borrow.Author.Tests.{lt-ltb, le-ltb, le-leb, lt-leb}
use lib.ListN.{length, take, drop, get_or, set, replicate}
use lib.Dec.{leb}
use lib.Seq.{take-take}
use Rattle.codes.specs.Outcome.{most_collected}
use Rattle.writing.specs.Wrote.{Wrote, Closes}
use Rattle.graphql.specs.Run.{Path, M, Res, Choices, done, pick}
use Rattle.graphql.specs.Data.{Val}
use Rattle.walking.specs.declared.state.State.{State}
use Rattle.walking.specs.declared.state.Kind.{Kind}
use Rattle.walking.specs.declared.state.Kind.TheVariants as kind
use Rattle.walking.specs.declared.state.Failure.{Failure}
use Rattle.walking.specs.declared.state.Done.{Done}
use Rattle.walking.specs.Gives.{View, as_data, as_entry, moved_to, Gives}
use Rattle.walking.specs.Settled.{passed_list}
use Rattle.walking.proofs.Ends.{placed_of}
use Rattle.walking.proofs.Filling.{slot, pick_at, pick_none}
use Rattle.walking.proofs.Slotted.{keyed, slotted}
use Rattle.walking.proofs.Groups.{whole, Setting, Turned, setting_begin, setting_slot, setting_lost, setting_again, setting_behind, setting_ended}
use Rattle.ordering.specs.Spans.{spans_at, opens, together, Clears, Tally, chosen, next_group, past_choice, span_of, Puts}
use Rattle.ordering.proofs.SpanLaws.{spans_length, chosen_below, clears_words, words_same, words_set, low_after, low_bound, together_split, together_low}
use Rattle.ordering.proofs.Spanned.{Spanned, spanned_none, spanned_slot, spanned_empties, spanned_first, spanned_all, spanned_set, spanned_less}

-- The choice that the code takes is the definition's.
picked_is : (n : ℕ) (cs : List ℕ) (choice : ℕ) → pick n (drop choice cs) ≡ done (chosen cs choice n) [] (drop (past_choice cs choice) cs)
picked_is n cs choice = go (dec_lt choice (length cs))
  where
    go : Dec (choice < length cs) → pick n (drop choice cs) ≡ done (chosen cs choice n) [] (drop (past_choice cs choice) cs)
    go (yes h) = rw (lt-ltb choice (length cs) h) (pick_at n cs choice h)
    go (no h) = let l : length cs ≤ choice = omega arith in rw (le-ltb choice (length cs) l) (pick_none n cs choice l)

-- What was placed was written.
gives_wrote : {A : Type 0} {U : View A} {cs text errors text' errors' : List ℕ} {s : State} {x : Res A} {d : Done} {k : Kind}
    → Gives U cs text errors s x d text' errors' → d.what ≡ Ok k → (v : A) × Wrote text text' s.at d.state.at (U.show v)
gives_wrote {U = U} {x = x} q e =
    let r = placed_of U x e q.what in
    let y = rw r.3 at q in (r.0, y.wrote)

-- a span, as that of a slot that is filled
own : (long at end : ℕ) → ℕ
own long at end = cond (leb end long) (end - at) 0

own_span : (long at end : ℕ) → span_of long at end ≡ suc (own long at end)
unfolding own
own_span long at end = go (dec_le end long)
  where
    go : Dec (end ≤ long) → span_of long at end ≡ suc (cond (leb end long) (end - at) 0)
    go (yes h) = rw (le-leb end long h)
    go (no h) = rw (lt-leb end long (omega arith))

own_fits : (long at end : ℕ) → end ≤ long → own long at end ≡ end - at
unfolding own
own_fits long at end h = rw (le-leb end long h)

module _ {G : Type 0} (run : G → M Val) (key : G → List ℕ) (z : G) (cs : Choices) (gs : List G) (p : Path) (text₀ errors₀ : List ℕ) (s : State) where
  -- So many groups are taken, among them the first `low`.
  pub record Turning (spans text errors : List ℕ) (at errs choice base groups low taken : ℕ) : Type 0 where
    pub slots : List (Option Val)
    pub setting : Setting run key z cs gs p text₀ errors₀ s slots text errors at errs choice (groups - taken)
    pub spanned : Spanned key (at ≤ length text₀) gs slots (spans_at spans base groups)
    pub counted : groups ≡ length gs
    pub few : groups ≤ most_collected
    pub room : base + most_collected ≤ length spans
    pub below : low ≤ taken
    pub most : taken ≤ groups
    pub lowest : opens (spans_at spans base low) ≡ 0

  pub turning_begin : {spans spans' : List ℕ} {base groups : ℕ} → groups ≡ length gs → groups ≤ most_collected
      → base + most_collected ≤ length spans → Clears spans base groups spans'
      → Turning spans' text₀ errors₀ s.at s.errs s.choice base groups 0 0
  unfolding opens
  turning_begin {spans} {spans'} {base} {groups} e few room c =
      let n : groups - 0 ≡ length gs = omega arith in
      record {
        slots = replicate (length gs) None;
        setting = rw n (setting_begin run key z cs gs p text₀ errors₀ s);
        spanned = rw (clears_words (omega arith) c, e) (spanned_none key (s.at ≤ length text₀) gs);
        counted = e;
        few = few;
        room = omega (arith, c.around.sized);
        below = omega arith;
        most = omega arith;
        lowest = refl;
      }

  module _ {spans text errors : List ℕ} {at errs choice base groups low taken : ℕ} (h : Turning spans text errors at errs choice base groups low taken) where
    open_words : opens (spans_at spans base groups) + taken ≡ groups
    open_words = omega (arith, spanned_empties key h.spanned, h.setting.free, h.most)

    -- No group is left, and the brackets are put.
    pub turning_ended : groups ≤ taken → {text1 : List ℕ} {end top : ℕ} → Closes 123 125 text s.at at text1 end
        → Gives as_data cs text₀ errors₀ s (whole run key z cs gs p text₀ errors₀ s)
        (record { what = Ok kind.Object; state = record { at = end; errs = errs; choice = choice; top = top } }) text1 errors
    turning_ended l close =
        let e : groups - taken ≡ 0 = omega arith in
        setting_ended run key z cs gs p text₀ errors₀ s (rw e at h.setting) close

    module _ (lt : taken < groups) where
      -- A group may be picked.
      pub turning_tally : Tally spans base groups low taken
      turning_tally = record {
        room = omega (arith, h.few, h.room);
        left = lt;
        below = h.below;
        lowest = h.lowest;
        counted = open_words;
      }

      abbrev left : ℕ
      left = groups - (taken + 1)

      one_left : groups - taken ≡ suc left
      one_left = omega arith

      held : Setting run key z cs gs p text₀ errors₀ s h.slots text errors at errs choice (suc left)
      held = rw one_left at h.setting

      abbrev nth : ℕ
      nth = chosen cs choice (suc left)

      nth_below : nth < suc left
      nth_below = chosen_below cs choice (omega arith)

      module _ {i : ℕ} (n : i ≡ next_group spans cs base groups taken choice) where
        is_slot : i ≡ slot h.slots nth
        is_slot = rw one_left at n ∙ sym (spanned_slot key h.spanned nth)

        -- It is there.
        pub turning_there : i < groups
        turning_there = omega (arith, is_slot, (setting_slot run key z cs gs p text₀ errors₀ s held nth_below).0, h.setting.size, h.counted)

        -- Its span is there, also after a call.
        pub turning_room : (spans2 : List ℕ) → length spans2 ≡ length spans → base + i < length spans2
        turning_room spans2 sized = omega (arith, turning_there, h.few, h.room)

        module _ {c : ℕ} (e : c ≡ past_choice cs choice) {d : Done} {text2 errors2 : List ℕ} {top : ℕ}
            (q : Gives (as_entry (keyed (key (get_or gs i z)))) cs text errors (record { at = at; errs = errs; choice = c; top = top })
            (run (get_or gs i z) (drop c cs)) d text2 errors2) where
          picked : pick (suc left) (drop choice cs) ≡ done nth [] (drop c cs)
          picked = rw e (picked_is (suc left) cs choice)

          entry : Gives (as_entry (keyed (key (get_or gs (slot h.slots nth) z)))) cs text errors
              (record { at = at; errs = errs; choice = c; top = top }) (run (get_or gs (slot h.slots nth) z) (drop c cs)) d text2 errors2
          entry = rw is_slot at q

          -- The set is given up.
          pub turning_lost : {f : Failure} → d.what ≡ Err f
              → Gives as_data cs text₀ errors₀ s (whole run key z cs gs p text₀ errors₀ s)
              (passed_list (record { what = d.what; state = moved_to d.state s.at })) text2 errors2
          turning_lost f = setting_lost run key z cs gs p text₀ errors₀ s held nth_below picked entry f

          module _ {k : Kind} (placed : d.what ≡ Ok k) where
            sure : d.state.at ≤ length text2 → at ≤ length text₀
            sure l = let w = (gives_wrote q placed).1 in omega (arith, w.moved, w.long, h.setting.wrote.long)

            -- where the entry's place is
            place : at ≤ length text₀ → length (slotted key gs (take (slot h.slots nth) h.slots)) ≡ together (spans_at spans base i)
            place u =
                spanned_first key u h.spanned (slot h.slots nth)
                ∙ ap (λ (k : ℕ). together (take k (spans_at spans base groups))) (sym is_slot)
                ∙ ap together (take-take i groups (drop base spans) (omega (arith, turning_there)))

            -- where it stands
            stands : at ≤ length text₀ → at ≡ s.at + together (spans_at spans base groups)
            stands u = omega (arith, h.setting.wrote.moved, spanned_all key u h.spanned)

            module _ {spans2 spans3 text3 : List ℕ} {low' : ℕ} (sized : length spans2 ≡ length spans)
                (same : (j : ℕ) → j < base + most_collected → get_or spans2 j 0 ≡ get_or spans j 0)
                (puts : Puts text2 spans2 base i low taken s.at at d.state.at low' text3 spans3) where
              -- the call left the spans of the set's groups as they were
              words_left : (n : ℕ) → n ≤ groups → spans_at spans2 base n ≡ spans_at spans base n
              words_left n l =
                  words_same spans spans2 base n (omega (arith, h.few, h.room)) sized (λ j b. same j (omega (arith, h.few)))

              abbrev After : Type 0
              After = Turned run key z cs gs p text₀ errors₀ s h.slots nth at text text2 text3 errors2 d left

              -- The groups taken are those before it.
              stayed : low ≡ taken → i ≡ low → After
              stayed a b =
                  let m = spans_length spans base groups turning_tally.room in
                  let t = take-take low groups (drop base spans) (omega (arith, h.below)) in
                  let r = together_low (spans_at spans base groups) low (omega (arith, h.below)) (rw t h.lowest) (omega (arith, open_words)) in
                  let v : together (spans_at spans base i) ≡ together (spans_at spans base groups) = rw b (sym (r ∙ ap together t)) in
                  rw (puts.turns.stays a b)
                  (setting_behind run key z cs gs p text₀ errors₀ s held nth_below picked entry
                  (λ l. omega (arith, stands (sure l), place (sure l), v)) placed)

              -- Else it is turned.
              moved : (low ≡ taken → i ≡ low → ⊥) → After
              moved other =
                  let t = ap together (take-take i groups (drop base spans) (omega (arith, turning_there))) in
                  let r = together_split (spans_at spans base groups) i in
                  let v = ap together (words_left i (omega (arith, turning_there))) in
                  setting_again run key z cs gs p text₀ errors₀ s held nth_below picked entry (puts.turns.moves other)
                  (λ l. omega (arith, stands (sure l), place (sure l), r, t, v)) placed

              turned : Dec (low ≡ taken) → Dec (i ≡ low) → After
              turned (yes a) (yes b) = stayed a b
              turned (yes a) (no b) = moved (λ _ q. b q)
              turned (no a) b = moved (λ q _. a q)

              new : ℕ
              new = own (length text2) at d.state.at

              words_new : spans_at spans3 base groups ≡ set (spans_at spans base groups) i (suc new)
              unfolding new
              words_new =
                  ap (λ (l : List ℕ). spans_at l base groups) puts.marked
                  ∙ words_set spans2 base groups i _ turning_there
                  ∙ rw (words_left groups (omega arith), own_span (length text2) at d.state.at)

              after : After → Turning spans3 text3 errors2 d.state.at d.state.errs d.state.choice base groups low' (taken + 1)
              unfolding new
              after t =
                  let f = low_bound i low taken h.below in
                  let b : low' ≤ taken + 1 = omega (arith, puts.lowest) in
                  let o = take-take low groups (drop base spans) (omega (arith, h.below)) in
                  let fits : d.state.at ≤ length text₀ → d.state.at ≤ length text2 =
                  λ u. omega (arith, t.entered.long, h.setting.wrote.long) in
                  record {
                    slots = set h.slots (slot h.slots nth) (Some t.value);
                    setting = t.setting;
                    spanned =
                        rw (words_new, is_slot)
                        (spanned_set key z (slot h.slots nth) t.value new (spanned_less key (λ u. sure (fits u)) h.spanned) (λ u.
                        omega (arith, own_fits (length text2) at d.state.at (fits u), t.entered.moved, t.entered.long, fits u)));
                    counted = h.counted;
                    few = h.few;
                    room = omega (arith, puts.around.sized, sized, h.room);
                    below = b;
                    most = omega arith;
                    lowest =
                        rw (← (take-take low' groups (drop base spans3) (omega arith)), words_new, puts.lowest)
                        (low_after (spans_at spans base groups) low i new (rw o h.lowest));
                  }

              -- The entry goes to its place: the next turn.
              pub turning_again : Turning spans3 text3 errors2 d.state.at d.state.errs d.state.choice base groups low' (taken + 1)
              turning_again = after (turned (ℕ_discrete low taken) (ℕ_discrete i low))
