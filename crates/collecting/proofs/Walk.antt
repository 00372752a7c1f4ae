-- The walk, way by way: what a function knows where it returns is what the definition says there. Assumes nothing.
use mathlib.Core.Path.{◌≡◌, refl, sym, ◌∙◌}
use mathlib.Core.Bool.{Bool, true, false, not, cond, ◌||◌}
use mathlib.Core.List.{List}
use Rattle.std.specs.Prelude.{Option, Some, None, Ok, Err}
use Prim.Native.Nat.{ℕ, zero, suc, ◌+◌, ◌-◌, ◌≤◌, ◌<◌}
use native.Mathlib.Nat.{add-zero, sub-zero}
use native.Mathlib.Omega.{arith}
use lib.Dec.{eqb}
use lib.ListN.{length, set, length-set}
use borrow.Author.Tests.{eq-eqb, ne_eqb}
use Rattle.rows.specs.Limits.{most_selections, most_fragments}
use Rattle.rows.specs.Rows.{cell}
use Rattle.rows.specs.Document.{set_at, field_selection, spread_selection, inline_selection, selection_of, selection_at, fragment_at}
use Rattle.rows.specs.declared.layout.Range.{Range}
use Rattle.rows.specs.declared.document.FieldSelection.{FieldSelection}
use Rattle.rows.specs.declared.document.Selected.{Selected}
use Rattle.rows.specs.declared.document.Selected.TheVariants.{Field, Spread, Inline, Unknown}
use Rattle.rows.specs.declared.document.Selection.{Selection}
use Rattle.rows.specs.declared.document.Fragment.{Fragment}
use Rattle.rows.proofs.Every.{falsified, verified}
use Rattle.codes.specs.declared.outcome.Outcome.{Outcome}
use Rattle.codes.specs.declared.outcome.Outcome.TheVariants.{TooFar, TooManyFields}
use Rattle.codes.specs.Outcome.{most_collected}
use Rattle.graphql.specs.Run.{Choices, M, pure, halt, when, ◌>>=◌}
use Rattle.graphql.specs.Lookup.{any, rows_from, rows_in, selections_of, fragment_named}
use Rattle.graphql.specs.Collect.{Collected, visit, grouped, collect_field, holds, dropped, does_fragment_type_apply, inline_applies, enter_fragment, spread, collect_selected, collect_fields, collect_within}
use Rattle.lookup.proofs.Fragments.{found_none, found_some, row_below}
use Rattle.collecting.specs.Visited.{is_marked}
use Rattle.collecting.specs.Collecting.{Collecting, Collectable, Shows, GoesOn, set_done, spread_done, inline_done, selection_done, rows_done, CollectsField, CollectsSet, CollectsSpread, CollectsInline, CollectsSelection, CollectsRows}
use Rattle.collecting.specs.declared.collect.Gathered.{Gathered}
use Rattle.collecting.proofs.Shown.{shows_field, shows_undefined, shows_visited}
use Rattle.collecting.proofs.Ends.{stays, like, comes_as, stopped, went}

-- the walk goes on with a list that is as long
pub collect_on : {types sets fragments list list' : List ℕ} → Collectable types sets fragments list → length list' ≡ length list
    → Collectable types sets fragments list'
collect_on w e = record { listed = w.listed; within = w.within; few = w.few; room = e ∙ w.room }

-- a fragment that is there has a bit
pub bit_there : {types sets fragments list : List ℕ} (name : ℕ) {found : Option ℕ} {row : ℕ} → Collectable types sets fragments list
    → found ≡ (fragment_named fragments name) → found ≡ Some row → row < most_fragments
bit_there {fragments = fragments'} name {row = row'} w e h =
    omega (arith, row_below fragments' name row' (found_some (fragment_named fragments' name) e h), w.few)

-- a set's selections are few
pub set_within : {types sets fragments list : List ℕ} (inner : ℕ) {range : Range} → Collectable types sets fragments list → range ≡ set_at sets inner
    → range.first + range.count ≤ most_selections
set_within inner w e = rw e (w.within inner)

-- ---- a field

module _ (row : ℕ) {list : List ℕ} {g : Gathered} where
  pub field_full : most_collected ≤ g.count → CollectsField row list g (Err TooManyFields) list
  unfolding collect_field when halt
  field_full l selections fragments f = record {
    kept = refl;
    collects = λ c s k. rw (eq-eqb c.count most_collected (omega (arith, s.counted, s.few)));
  }

  pub field_put : g.count < most_collected
      → CollectsField row list g (Ok (record { visited = g.visited; count = g.count + 1 })) (set list g.count row)
  unfolding collect_field when pure
  field_put l selections fragments f = record {
    kept = length-set list g.count row;
    collects = λ c s. record {
      collected = record { visited = c.visited; groups = grouped (field_selection selections row).key row c.groups; count = suc c.count };
      is = λ k. rw (ne_eqb c.count most_collected (λ e. omega (arith, s.counted)));
      shows = shows_field selections fragments s row l f;
    };
  }

-- a field's row says what field it is
field_is : (selections : List ℕ) (row : ℕ) (f : FieldSelection) → (selection_at selections row).what ≡ Field f → f ≡ field_selection selections row
unfolding selection_at selection_of spread_selection inline_selection
field_is selections row f e = go (eqb (cell selections 10 row 0) 0) (eqb (cell selections 10 row 0) 1) (eqb (cell selections 10 row 0) 2) e
  where
    go : (a b c : Bool)
        → cond a (Field (field_selection selections row))
        (cond b (spread_selection selections row) (cond c (inline_selection selections row) Unknown)) ≡ Field f
        → f ≡ field_selection selections row
    go true b c e = cc
    go false true c e = absurd (let z : ◌≡◌ {A = ℕ} 0 1 = cc in omega arith)
    go false false true e = absurd (let z : ◌≡◌ {A = ℕ} 0 1 = cc in omega arith)
    go false false false e = absurd (let z : ◌≡◌ {A = ℕ} 0 1 = cc in omega arith)

-- what the definition says of a fragment that was not visited before, and of a selection that is not dropped
module _ (types members sets selections fragments nodes variables : List ℕ) (room object : ℕ) where
  entered : (name row : ℕ) {applies : Bool} {fragment : Fragment} (c : Collected) → any (λ v. eqb v name) c.visited ≡ false
      → fragment_named fragments name ≡ Some row → fragment ≡ fragment_at fragments row
      → applies ≡ does_fragment_type_apply types members object fragment.condition
      → spread_done types members sets selections fragments nodes variables room object name c ≡ when applies (set_done types members sets selections fragments nodes variables room object fragment.set (visit name c)) (pure (visit name c))
  unfolding spread when enter_fragment
  entered name row c n f read does = rw (n, f, ← read, ← does)

  module _ (row : ℕ) {s : Selection} (e : s ≡ selection_at selections row)
      {drops : Bool} (d : drops ≡ (holds variables nodes false s.skip || not (holds variables nodes true s.include))) where
    is_dropped : dropped variables nodes (selection_at selections row) ≡ drops
    unfolding dropped
    is_dropped = rw (← e) (sym d)

    kept : drops ≡ false → {what : Selected} → s.what ≡ what → (c : Collected)
        → selection_done types members sets selections fragments nodes variables room object row c
        ≡ collect_selected types members sets selections fragments variables nodes
        (λ o i d. collect_within types members sets selections fragments variables nodes room o i d) object row what c
    unfolding when
    kept n w c = rw (is_dropped, n, ← e, w)

module _ (types members sets selections fragments nodes variables : List ℕ) (room object : ℕ) {list : List ℕ} {g : Gathered} where
  -- ---- a set

  pub set_full : (inner : ℕ) → room ≡ 0 → CollectsSet types members sets selections fragments nodes variables room object inner list g (Err TooFar) list
  unfolding collect_within halt
  set_full inner z = rw z (record { kept = refl; collects = λ c s k. refl })

  pub set_opened : (inner : ℕ) {range : Range} {r : Collecting} {list' : List ℕ} → range ≡ set_at sets inner → (room ≡ 0 → ⊥)
      → CollectsRows types members sets selections fragments nodes variables (room - 1) object range list g r list' → CollectsSet types members sets selections fragments nodes variables room object inner list g r list'
  unfolding collect_within selections_of
  set_opened inner {range = range'} e z q =
      like selections fragments (set_done types members sets selections fragments nodes variables room object inner) (λ c. c) (rows_done types members sets selections fragments nodes variables (room - 1) object (rows_in range')) (λ c s. (opened room z c, s)) q
    where
      opened : (n : ℕ) → (n ≡ 0 → ⊥) → (c : Collected)
          → set_done types members sets selections fragments nodes variables n object inner c
          ≡ rows_done types members sets selections fragments nodes variables (n - 1) object (rows_in range') c
      opened zero h c = absurd (h refl)
      opened (suc n) h c = let s : suc n - 1 ≡ n = omega arith in rw (s, e)

  -- ---- a spread

  module _ (name : ℕ) {found : Option ℕ} (e : found ≡ (fragment_named fragments name)) where
    pub spread_undefined : found ≡ None → CollectsSpread types members sets selections fragments nodes variables room object name list g (Ok g) list
    unfolding spread when enter_fragment pure
    spread_undefined h = record { kept = refl; collects = λ c s. go c s (any (λ v. eqb v name) c.visited) refl }
      where
        go : (c : Collected) → Shows selections fragments list g c → (b : Bool) → any (λ v. eqb v name) c.visited ≡ b
            → GoesOn selections fragments (spread_done types members sets selections fragments nodes variables room object name c) g list
        go c s true t = record { collected = c; is = λ k. rw t; shows = s }
        go c s false t = record {
          collected = visit name c;
          is = λ k. rw (t, found_none (fragment_named fragments name) e h);
          shows = shows_undefined selections fragments s name (found_none (fragment_named fragments name) e h);
        }

    module _ {row : ℕ} (h : found ≡ Some row) {seen : Bool} (m : seen ≡ is_marked row g.visited) where
      pub spread_again : seen ≡ true → CollectsSpread types members sets selections fragments nodes variables room object name list g (Ok g) list
      unfolding spread when
      spread_again t =
          stays selections fragments (spread_done types members sets selections fragments nodes variables room object name) (λ c. c)
          (λ c s. (rw (s.marked name row (found_some (fragment_named fragments name) e h), ← m, t), s))

      module _ (n : seen ≡ false) (bits : ℕ) (marks : (other : ℕ) → is_marked other bits ≡ (eqb other row || is_marked other g.visited))
          {fragment : Fragment} (read : fragment ≡ fragment_at fragments row)
          {applies : Bool} (does : applies ≡ does_fragment_type_apply types members object fragment.condition) where
        pub spread_other : not applies ≡ true → CollectsSpread types members sets selections fragments nodes variables room object name list g (Ok (record { visited = bits; count = g.count })) list
        unfolding when
        spread_other a =
            let f = found_some (fragment_named fragments name) e h in
            stays selections fragments (spread_done types members sets selections fragments nodes variables room object name) (visit name)
            (λ c s. (
              entered types members sets selections fragments nodes variables room object name row c (s.marked name row f ∙ (sym m ∙ n)) f read does ∙ rw (falsified applies applies refl a),
              shows_visited selections fragments s name row bits f marks,
            ))

        pub spread_opened : {r : Collecting} {list' : List ℕ} → not applies ≡ false
            → CollectsSet types members sets selections fragments nodes variables room object fragment.set list (record { visited = bits; count = g.count }) r list'
            → CollectsSpread types members sets selections fragments nodes variables room object name list g r list'
        unfolding when
        spread_opened a q =
            let f = found_some (fragment_named fragments name) e h in
            like selections fragments (spread_done types members sets selections fragments nodes variables room object name) (visit name) (set_done types members sets selections fragments nodes variables room object fragment.set)
            (λ c s. (
              entered types members sets selections fragments nodes variables room object name row c (s.marked name row f ∙ (sym m ∙ n)) f read does ∙ rw (verified applies applies refl a),
              shows_visited selections fragments s name row bits f marks,
            )) q

  -- ---- an inline fragment

  module _ (type : Option ℕ) (inner : ℕ) {applies : Bool} (does : applies ≡ inline_applies types members object type) where
    pub inline_other : not applies ≡ true → CollectsInline types members sets selections fragments nodes variables room object type inner list g (Ok g) list
    unfolding when
    inline_other a =
        stays selections fragments (inline_done types members sets selections fragments nodes variables room object type inner) (λ c. c)
        (λ c s. (rw (falsified applies (inline_applies types members object type) does a), s))

    pub inline_opened : {r : Collecting} {list' : List ℕ} → not applies ≡ false
        → CollectsSet types members sets selections fragments nodes variables room object inner list g r list' → CollectsInline types members sets selections fragments nodes variables room object type inner list g r list'
    unfolding when
    inline_opened a q =
        like selections fragments (inline_done types members sets selections fragments nodes variables room object type inner) (λ c. c) (set_done types members sets selections fragments nodes variables room object inner)
        (λ c s. (rw (verified applies (inline_applies types members object type) does a), s)) q

  -- ---- a selection

  module _ (row : ℕ) {s : Selection} (e : s ≡ selection_at selections row)
      {drops : Bool} (d : drops ≡ (holds variables nodes false s.skip || not (holds variables nodes true s.include))) where
    pub selection_dropped : drops ≡ true → CollectsSelection types members sets selections fragments nodes variables room object row list g (Ok g) list
    unfolding when
    selection_dropped t =
        stays selections fragments (selection_done types members sets selections fragments nodes variables room object row) (λ c. c)
        (λ c s. (rw (is_dropped types members sets selections fragments nodes variables room object row e d, t), s))

    module _ (n : drops ≡ false) where
      pub selection_field : {f : FieldSelection} {r : Collecting} {list' : List ℕ} → s.what ≡ Field f → row < most_selections
          → CollectsField row list g r list' → CollectsSelection types members sets selections fragments nodes variables room object row list g r list'
      unfolding collect_selected
      selection_field {f = f'} w l q =
          let h : (selection_at selections row).what ≡ Field f' = rw (← e) w in
          let t : f' ≡ field_selection selections row = field_is selections row f' h in
          like selections fragments (selection_done types members sets selections fragments nodes variables room object row) (λ c. c) (collect_field (field_selection selections row).key row)
          (λ c s. (kept types members sets selections fragments nodes variables room object row e d n w c ∙ rw t, s)) (q selections fragments (record { there = l; is = h ∙ rw t }))

      pub selection_spread : {name : ℕ} {r : Collecting} {list' : List ℕ} → s.what ≡ Spread name
          → CollectsSpread types members sets selections fragments nodes variables room object name list g r list' → CollectsSelection types members sets selections fragments nodes variables room object row list g r list'
      unfolding collect_selected
      selection_spread {name = name'} w q =
          like selections fragments (selection_done types members sets selections fragments nodes variables room object row) (λ c. c) (spread_done types members sets selections fragments nodes variables room object name') (λ c s. (kept types members sets selections fragments nodes variables room object row e d n w c, s)) q

      pub selection_inline : {type : Option ℕ} {inner : ℕ} {r : Collecting} {list' : List ℕ} → s.what ≡ Inline type inner
          → CollectsInline types members sets selections fragments nodes variables room object type inner list g r list' → CollectsSelection types members sets selections fragments nodes variables room object row list g r list'
      unfolding collect_selected
      selection_inline {type = type'} {inner = inner'} w q =
          like selections fragments (selection_done types members sets selections fragments nodes variables room object row) (λ c. c) (inline_done types members sets selections fragments nodes variables room object type' inner') (λ c s. (kept types members sets selections fragments nodes variables room object row e d n w c, s)) q

      pub selection_unknown : s.what ≡ Unknown → CollectsSelection types members sets selections fragments nodes variables room object row list g (Ok g) list
      unfolding collect_selected
      selection_unknown w = stays selections fragments (selection_done types members sets selections fragments nodes variables room object row) (λ c. c) (λ c s. (kept types members sets selections fragments nodes variables room object row e d n w c, s))

-- ---- The loop over the selections. Before a selection: what is left of them, after what was collected so far

module _ (types members sets selections fragments nodes variables : List ℕ) (room object : ℕ) (rows : Range) (list₀ : List ℕ) (g₀ : Gathered) where
  abbrev rest : (first count : ℕ) → Collected → M Collected
  rest first count = rows_done types members sets selections fragments nodes variables room object (rows_from first count)

  pub record Gone (list : List ℕ) (g : Gathered) (i : ℕ) (c₀ : Collected) : Type 0 where
    pub collected : Collected
    pub shows : Shows selections fragments list g collected
    pub left : (k : Choices) → rest rows.first rows.count c₀ k ≡ rest (rows.first + i) (rows.count - i) collected k

  pub record Going (list : List ℕ) (g : Gathered) (i : ℕ) : Type 0 where
    pub below : i ≤ rows.count
    pub within : rows.first + rows.count ≤ most_selections
    pub kept : length list ≡ length list₀
    pub gone : (c₀ : Collected) → Shows selections fragments list₀ g₀ c₀ → Gone list g i c₀

  pub going_begin : rows.first + rows.count ≤ most_selections → Going list₀ g₀ 0
  going_begin w = record {
    below = omega arith;
    within = w;
    kept = refl;
    gone = λ c₀ s. record { collected = c₀; shows = s; left = λ k. rw (add-zero, sub-zero) };
  }

  module _ {list list' : List ℕ} {g : Gathered} {i : ℕ} {r : Collecting} (a : Going list g i) (l : i < rows.count)
      (q : CollectsSelection types members sets selections fragments nodes variables room object (rows.first + i) list g r list') where
    next : (c₀ : Collected) (s : Shows selections fragments list₀ g₀ c₀) (k : Choices)
        → rest rows.first rows.count c₀ k
        ≡ (selection_done types members sets selections fragments nodes variables room object (rows.first + i) (a.gone c₀ s).collected
        >>= (λ d. rest (rows.first + (i + 1)) (rows.count - (i + 1)) d)) k
    unfolding collect_fields rows_from
    next c₀ s k =
        let t : rows.count - i ≡ suc (rows.count - (i + 1)) = omega arith in
        let u : rows.first + (i + 1) ≡ suc (rows.first + i) = omega arith in
        rw u (rw t at ((a.gone c₀ s).left k))

    pub going_again : {g' : Gathered} → r ≡ Ok g' → Going list' g' (i + 1)
    going_again {g' = after} e = record {
      below = omega arith;
      within = a.within;
      kept = q.kept ∙ a.kept;
      gone = λ c₀ s.
          let c : GoesOn selections fragments (selection_done types members sets selections fragments nodes variables room object (rows.first + i) (a.gone c₀ s).collected) after list'
          = rw e at (q.collects (a.gone c₀ s).collected (a.gone c₀ s).shows) in
          record {
            collected = c.collected;
            shows = c.shows;
            left = λ k. next c₀ s k ∙ went _ (λ d. rest (rows.first + (i + 1)) (rows.count - (i + 1)) d) c.collected k (c.is k);
          };
    }

    pub going_stopped : {o : Outcome} → r ≡ Err o → CollectsRows types members sets selections fragments nodes variables room object rows list₀ g₀ (Err o) list'
    unfolding rows_in
    going_stopped {o = why} e = record {
      kept = q.kept ∙ a.kept;
      collects = λ c₀ s.
          comes_as selections fragments (Err why) list' (next c₀ s)
          (stopped selections fragments _ _ why list' (rw e at (q.collects (a.gone c₀ s).collected (a.gone c₀ s).shows)));
    }

  pub going_ended : {list : List ℕ} {g : Gathered} {i : ℕ} → Going list g i → rows.count ≤ i
      → CollectsRows types members sets selections fragments nodes variables room object rows list₀ g₀ (Ok g) list
  unfolding collect_fields rows_from rows_in pure
  going_ended {i = i'} a l =
      let z : rows.count - i' ≡ 0 = omega arith in
      record {
        kept = a.kept;
        collects = λ c₀ s. record { collected = (a.gone c₀ s).collected; is = λ k. rw z at ((a.gone c₀ s).left k); shows = (a.gone c₀ s).shows };
      }

pub ruleset walking =
    (collect_on, bit_there, set_full, set_within, set_opened, spread_undefined, spread_again, spread_other, spread_opened, selection_dropped, selection_field, selection_spread, selection_inline, inline_other, inline_opened, selection_unknown, going_begin, going_again, going_stopped, going_ended)
