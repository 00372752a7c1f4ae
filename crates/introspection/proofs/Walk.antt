-- The walk, way by way: what a function knows where it returns is what the definition says there. Assumes nothing.
use mathlib.Core.Path.{◌≡◌, refl, sym, ◌∙◌}
use mathlib.Core.Bool.{Bool, true, false, not, ◌&&◌}
use mathlib.Core.List.{List}
use Prim.Native.Nat.{ℕ, zero, suc, ◌+◌, ◌-◌, ◌≤◌, ◌<◌, max}
use native.Mathlib.Nat.{add-zero, sub-zero}
use native.Mathlib.Numerals.{add-one}
use native.Mathlib.Omega.{arith}
use lib.Dec.{leb}
use lib.ListN.{length, get_or, set, length-set}
use borrow.Author.Tests.{eq-eqb, ne_eqb, le-leb, lt-leb, lt-ltb, le-ltb}
use Rattle.rows.specs.Document.{set_at, selection_at, fragment_at}
use Rattle.rows.specs.declared.layout.Range.{Range}
use Rattle.std.specs.Prelude.{Option, Some, None, Ok, Err}
use Rattle.rows.specs.declared.document.FieldSelection.{FieldSelection}
use Rattle.rows.specs.declared.document.Selected.TheVariants.{Field, Spread, Inline, Unknown}
use Rattle.rows.specs.declared.document.Selection.{Selection}
use Rattle.rows.specs.declared.document.Fragment.{Fragment}
use Rattle.rows.proofs.Every.{falsified, verified}
use Rattle.graphql.specs.Lookup.{rows_from, rows_in, selections_of, fragment_named}
use Rattle.graphql.specs.Depth.{Rises, rise_of, and_then, child_set, check_field, met_again, remembered, check_fragment, check_spread, check_selected, check_selections, check_set}
use Rattle.graphql.specs.Depth as defined
use Rattle.lookup.proofs.Fragments.{found_none, found_some, row_below}
use Rattle.introspection.specs.MaxDepth.{Checked, Marks, Marked, Checks, Walkable, ChecksSet, ChecksSelection, ChecksField, ChecksChild, ChecksSpread}
use Rattle.introspection.specs.declared.max_depth.Unmeasured.{Unmeasured}
use Rattle.introspection.specs.declared.max_depth.Unmeasured.TheVariants.{TooManySets, TooDeep}
use Rattle.introspection.proofs.Ends.{level, refused, like, stopped, came}
use Rattle.introspection.proofs.Marks.{marked_one}

-- the walk goes on, with as many marks, at a depth that is not refused
pub walk_on : {sets fragments : List ℕ} {marks marks' : Marks} {d d' : ℕ} → Walkable sets fragments marks d → length marks' ≡ length marks → d' < 3
    → Walkable sets fragments marks' d'
walk_on w e l = record { within = w.within; few = w.few; marked = e ∙ w.marked; shallow = l }

-- a fragment that is there has a mark, and keeps it
module _ {sets fragments : List ℕ} {marks : Marks} (name : ℕ) {sofar row : ℕ} {found : Option ℕ} (w : Walkable sets fragments marks sofar)
    (e : found ≡ (fragment_named fragments name)) (h : found ≡ Some row) where
  pub mark_there : row < length marks
  mark_there = omega (arith, row_below fragments name row (found_some (fragment_named fragments name) e h), w.few, w.marked)

  pub mark_kept : {x : Rises → defined.Checked} {r : Checked} {marks' : Marks} → Checks fragments marks x r marks' → row < length marks'
  mark_kept q = omega (arith, mark_there, q.kept)

-- a set that may be opened is its selections
module _ (sets selections fragments : List ℕ) (room : ℕ) where
  set_opened : (inner sofar : ℕ) (rises : Rises) → (room ≡ 0 → ⊥)
      → check_set sets selections fragments room inner sofar rises
      ≡ check_selections sets selections fragments (check_set sets selections fragments (room - 1)) sofar (rows_from (set_at sets inner).first (set_at sets inner).count) sofar rises
  unfolding check_set selections_of rows_in
  set_opened inner sofar rises z = go room z
    where
      go : (n : ℕ) → (n ≡ 0 → ⊥) → check_set sets selections fragments n inner sofar rises
          ≡ check_selections sets selections fragments (check_set sets selections fragments (n - 1)) sofar (rows_from (set_at sets inner).first (set_at sets inner).count) sofar rises
      go zero h = absurd (h refl)
      go (suc n) h = let e : suc n - 1 ≡ n = omega arith in rw e

module _ (sets selections fragments : List ℕ) (room : ℕ) {marks : Marks} where
  -- ---- the set of a field

  module _ (field : FieldSelection) (d : ℕ) where
    pub child_none : field.set ≡ 0 → ChecksChild sets selections fragments marks room field d (Ok d) marks
    unfolding child_set
    child_none z = level fragments (child_set sets selections fragments (check_set sets selections fragments room) d d field) d (λ rises m. rw (eq-eqb field.set 0 z))

    pub child_checked : {r : Checked} {marks' : Marks} → (field.set ≡ 0 → ⊥) → ChecksSet sets selections fragments marks room field.set d r marks'
        → ChecksChild sets selections fragments marks room field d r marks'
    unfolding child_set
    child_checked z q = like fragments (child_set sets selections fragments (check_set sets selections fragments room) d d field) (check_set sets selections fragments room field.set d) (λ rises m. rw (ne_eqb field.set 0 z)) q

  -- ---- a field

  module _ (place sofar : ℕ) (field : FieldSelection) {is : Bool} (e : is ≡ (leb 8 field.name && leb field.name 11)) where
    pub field_same : {r : Checked} {marks' : Marks} → not is ≡ true → ChecksChild sets selections fragments marks room field sofar r marks'
        → ChecksField sets selections fragments marks room place field sofar r marks'
    unfolding check_field
    field_same n q =
        like fragments (check_field sets selections fragments (check_set sets selections fragments room) sofar place field) (child_set sets selections fragments (check_set sets selections fragments room) sofar sofar field)
        (λ rises m. rw (falsified is (leb 8 field.name && leb field.name 11) e n)) q

    pub field_deep : not is ≡ false → 3 ≤ sofar + 1 → ChecksField sets selections fragments marks room place field sofar (Err (TooDeep place)) marks
    unfolding check_field
    field_deep n l =
        refused fragments (check_field sets selections fragments (check_set sets selections fragments room) sofar place field) place
        (λ rises m. rw (verified is (leb 8 field.name && leb field.name 11) e n, le-leb 3 (suc sofar) (omega arith)))

    pub field_raised : {r : Checked} {marks' : Marks} → not is ≡ false → sofar + 1 < 3
        → ChecksChild sets selections fragments marks room field (sofar + 1) r marks'
        → ChecksField sets selections fragments marks room place field sofar r marks'
    unfolding check_field child_set
    field_raised n l q =
        like fragments (check_field sets selections fragments (check_set sets selections fragments room) sofar place field) (child_set sets selections fragments (check_set sets selections fragments room) (sofar + 1) (sofar + 1) field)
        (λ rises m. rw (verified is (leb 8 field.name && leb field.name 11) e n, lt-leb 3 (suc sofar) (omega arith), add-one)) q

  -- ---- a selection

  module _ (sofar row : ℕ) {s : Selection} (e : s ≡ selection_at selections row) {r : Checked} {marks' : Marks} where
    pub a_field : {f : FieldSelection} → s.what ≡ Field f → ChecksField sets selections fragments marks room s.place f sofar r marks'
        → ChecksSelection sets selections fragments marks room row sofar r marks'
    unfolding check_selected
    a_field w q = rw (← e, w) q

    pub a_spread : {n : ℕ} → s.what ≡ Spread n → ChecksSpread sets selections fragments marks room s.place n sofar r marks'
        → ChecksSelection sets selections fragments marks room row sofar r marks'
    unfolding check_selected
    a_spread w q = rw (← e, w) q

    pub an_inline : {type : Option ℕ} {inner : ℕ} → s.what ≡ Inline type inner → ChecksSet sets selections fragments marks room inner sofar r marks'
        → ChecksSelection sets selections fragments marks room row sofar r marks'
    unfolding check_selected
    an_inline w q = rw (← e, w) q

  pub an_unknown : (sofar row : ℕ) {s : Selection} → s ≡ selection_at selections row → s.what ≡ Unknown
      → ChecksSelection sets selections fragments marks room row sofar (Ok sofar) marks
  unfolding check_selected
  an_unknown sofar row e w = rw (← e, w) (level fragments (λ rises. defined.depth sofar rises) sofar (λ rises m. refl))

  -- ---- a spread

  module _ (place name sofar : ℕ) {found : Option ℕ} (e : found ≡ (fragment_named fragments name)) where
    pub spread_undefined : found ≡ None → ChecksSpread sets selections fragments marks room place name sofar (Ok sofar) marks
    unfolding check_spread
    spread_undefined h = rw (found_none (fragment_named fragments name) e h) (level fragments (λ rises. defined.depth sofar rises) sofar (λ rises m. refl))

    module _ {row : ℕ} (h : found ≡ Some row) where
      module _ {mark : Option ℕ} (k : mark ≡ get_or marks row None) where
        known : {rises : Rises} → Marked fragments marks rises → rise_of name rises ≡ mark
        known m = sym (k ∙ m.marked name row (found_some (fragment_named fragments name) e h))

        pub again_deep : {rise : ℕ} → mark ≡ Some rise → sofar < 3 → 3 - sofar < rise
            → ChecksSpread sets selections fragments marks room place name sofar (Err (TooDeep place)) marks
        unfolding check_spread check_fragment met_again
        again_deep {rise = rise'} z l o =
            refused fragments {marks = marks} (check_spread sets selections fragments (check_set sets selections fragments room) sofar place name (fragment_named fragments name)) place
            (λ rises m. rw (found_some (fragment_named fragments name) e h, known m, z, lt-ltb 3 (sofar + rise') (omega arith)))

        pub again_level : {rise : ℕ} → mark ≡ Some rise → sofar < 3 → rise ≤ 3 - sofar
            → ChecksSpread sets selections fragments marks room place name sofar (Ok sofar) marks
        unfolding check_spread check_fragment met_again
        again_level {rise = rise'} z l o =
            level fragments {marks = marks} (check_spread sets selections fragments (check_set sets selections fragments room) sofar place name (fragment_named fragments name)) sofar
            (λ rises m. rw (found_some (fragment_named fragments name) e h, known m, z, le-ltb 3 (sofar + rise') (omega arith)))

        module _ {r : Checked} {marks' : Marks} {fragment : Fragment} (z : mark ≡ None) (f : fragment ≡ fragment_at fragments row)
            (q : ChecksSet sets selections fragments marks room fragment.set sofar r marks') where
          opened : (rises : Rises) → Marked fragments marks rises
              → check_spread sets selections fragments (check_set sets selections fragments room) sofar place name (fragment_named fragments name) rises
              ≡ and_then (check_set sets selections fragments room fragment.set sofar rises) (remembered sets selections fragments (check_set sets selections fragments room) sofar name)
          unfolding check_spread check_fragment
          opened rises m = rw (found_some (fragment_named fragments name) e h, known m, z, f)

          pub spread_stopped : {why : Unmeasured} → r ≡ Err why → ChecksSpread sets selections fragments marks room place name sofar (Err why) marks'
          spread_stopped s = record {
            kept = q.kept;
            checks = λ rises m. rw (opened rises m) (stopped fragments (check_set sets selections fragments room fragment.set sofar rises) (remembered sets selections fragments (check_set sets selections fragments room) sofar name) (rw s at (q.checks rises m)));
          }

          pub spread_met : {d rise : ℕ} → Walkable sets fragments marks sofar → r ≡ Ok d → rise ≡ d - sofar
              → ChecksSpread sets selections fragments marks room place name sofar (Ok d) (set marks' row (Some rise))
          unfolding and_then remembered
          spread_met {d = d'} {rise = rise'} w s t = record {
            kept = length-set marks' row (Some rise') ∙ q.kept;
            checks = λ rises m.
                let c = came fragments (check_set sets selections fragments room fragment.set sofar rises) (rw s at (q.checks rises m)) in
                let l : row < length marks' = omega (arith, row_below fragments name row (found_some (fragment_named fragments name) e h), w.few, w.marked, q.kept) in
                rw (opened rises m, c.1, ← t) (record { what = refl; remembers = marked_one fragments c.2 name row rise' (found_some (fragment_named fragments name) e h) l });
          }

  -- ---- a set

  pub set_full : (inner sofar : ℕ) → room ≡ 0 → ChecksSet sets selections fragments marks room inner sofar (Err TooManySets) marks
  unfolding check_set
  set_full inner sofar z = rw z (record { kept = refl; checks = λ rises m. record { what = refl; remembers = tt } })

-- a selection that came to a depth, and the others after it
module _ (sets selections fragments : List ℕ) (room sofar : ℕ) (rows : List ℕ) (deepest : ℕ) where
  went : {x : defined.Checked} {rises : Rises} {d deeper : ℕ} → x ≡ defined.depth d rises → deeper ≡ max deepest d
      → and_then x (λ d' rises'. check_selections sets selections fragments (check_set sets selections fragments room) sofar rows (max deepest d') rises') ≡ check_selections sets selections fragments (check_set sets selections fragments room) sofar rows deeper rises
  unfolding and_then
  went e f = rw (e, f)

-- The loop over the selections of a set. Before a selection: what is left of the check, with the depth and the marks so far
module _ (sets selections fragments : List ℕ) (room sofar first count : ℕ) (marks₀ : Marks) where
  pub record Gone (marks : Marks) (deepest i : ℕ) (rises₀ : Rises) : Type 0 where
    pub rises : Rises
    pub marked : Marked fragments marks rises
    pub left : check_selections sets selections fragments (check_set sets selections fragments room) sofar (rows_from first count) sofar rises₀
        ≡ check_selections sets selections fragments (check_set sets selections fragments room) sofar (rows_from (first + i) (count - i)) deepest rises

  pub record Going (marks : Marks) (deepest i : ℕ) : Type 0 where
    pub below : i ≤ count
    pub within : first + count ≤ 2048
    pub kept : length marks ≡ length marks₀
    pub gone : (rises₀ : Rises) → Marked fragments marks₀ rises₀ → Gone marks deepest i rises₀

  pub going_begin : first + count ≤ 2048 → Going marks₀ sofar 0
  going_begin w = record { below = omega arith; within = w; kept = refl; gone = λ rises₀ m. record { rises = rises₀; marked = m; left = rw (add-zero, sub-zero) } }

  module _ {marks marks' : Marks} {deepest i : ℕ} {r : Checked} (g : Going marks deepest i) (l : i < count)
      (q : ChecksSelection sets selections fragments marks room (first + i) sofar r marks') where
    next : (rises₀ : Rises) (m : Marked fragments marks₀ rises₀)
        → check_selections sets selections fragments (check_set sets selections fragments room) sofar (rows_from first count) sofar rises₀
        ≡ and_then (check_selected sets selections fragments (check_set sets selections fragments room) sofar (selection_at selections (first + i)).place (selection_at selections (first + i)).what (g.gone rises₀ m).rises)
        (λ d rises'. check_selections sets selections fragments (check_set sets selections fragments room) sofar (rows_from (first + (i + 1)) (count - (i + 1))) (max deepest d) rises')
    unfolding check_selections rows_from
    next rises₀ m =
        let s : count - i ≡ suc (count - (i + 1)) = omega arith in
        let t : first + (i + 1) ≡ suc (first + i) = omega arith in
        rw t (rw s at (g.gone rises₀ m).left)

    pub going_again : {d deeper : ℕ} → r ≡ Ok d → deeper ≡ max deepest d → Going marks' deeper (i + 1)
    unfolding and_then
    going_again e f = record {
      below = omega arith;
      within = g.within;
      kept = q.kept ∙ g.kept;
      gone = λ rises₀ m.
          let c = came fragments (check_selected sets selections fragments (check_set sets selections fragments room) sofar (selection_at selections (first + i)).place (selection_at selections (first + i)).what (g.gone rises₀ m).rises)
          (rw e at (q.checks (g.gone rises₀ m).rises (g.gone rises₀ m).marked)) in
          record { rises = c.0; marked = c.2; left = next rises₀ m ∙ went sets selections fragments room sofar (rows_from (first + (i + 1)) (count - (i + 1))) deepest c.1 f };
    }

    going_stopped : {why : Unmeasured} → r ≡ Err why → Checks fragments marks₀ (λ rises₀. check_selections sets selections fragments (check_set sets selections fragments room) sofar (rows_from first count) sofar rises₀) (Err why) marks'
    going_stopped s = record {
      kept = q.kept ∙ g.kept;
      checks = λ rises₀ m. rw (next rises₀ m) (stopped fragments _ _ (rw s at (q.checks (g.gone rises₀ m).rises (g.gone rises₀ m).marked)));
    }

  going_ended : {marks : Marks} {deepest i : ℕ} → Going marks deepest i → count ≤ i
      → Checks fragments marks₀ (λ rises₀. check_selections sets selections fragments (check_set sets selections fragments room) sofar (rows_from first count) sofar rises₀) (Ok deepest) marks
  unfolding check_selections rows_from
  going_ended {i = i'} g l =
      let z : count - i' ≡ 0 = omega arith in
      record { kept = g.kept; checks = λ rises₀ m. rw ((g.gone rises₀ m).left, z) (record { what = refl; remembers = (g.gone rises₀ m).marked }) }

-- ---- the loop at the definition

module _ (sets selections fragments : List ℕ) (room inner sofar : ℕ) {marks₀ : Marks} {range : Range} (e : range ≡ set_at sets inner) where
  pub set_begin : Walkable sets fragments marks₀ sofar → Going sets selections fragments room sofar range.first range.count marks₀ marks₀ sofar 0
  set_begin w = going_begin sets selections fragments room sofar range.first range.count marks₀ (rw e (w.within inner))

module _ (sets selections fragments : List ℕ) (room inner sofar : ℕ) {marks₀ : Marks} {range : Range} (z : room ≡ 0 → ⊥) (e : range ≡ set_at sets inner)
    {marks : Marks} {deepest i : ℕ} (g : Going sets selections fragments (room - 1) sofar range.first range.count marks₀ marks deepest i) where
  pub set_stopped : {r : Checked} {why : Unmeasured} {marks' : Marks} → i < range.count
      → ChecksSelection sets selections fragments marks (room - 1) (range.first + i) sofar r marks'
      → r ≡ Err why → ChecksSet sets selections fragments marks₀ room inner sofar (Err why) marks'
  set_stopped l q s =
      like fragments (check_set sets selections fragments room inner sofar) (λ rises₀. check_selections sets selections fragments (check_set sets selections fragments (room - 1)) sofar (rows_from range.first range.count) sofar rises₀)
      (λ rises m. rw e (set_opened sets selections fragments room inner sofar rises z)) (going_stopped sets selections fragments (room - 1) sofar range.first range.count marks₀ g l q s)

  pub set_ended : range.count ≤ i → ChecksSet sets selections fragments marks₀ room inner sofar (Ok deepest) marks
  set_ended l =
      like fragments (check_set sets selections fragments room inner sofar) (λ rises₀. check_selections sets selections fragments (check_set sets selections fragments (room - 1)) sofar (rows_from range.first range.count) sofar rises₀)
      (λ rises m. rw e (set_opened sets selections fragments room inner sofar rises z)) (going_ended sets selections fragments (room - 1) sofar range.first range.count marks₀ g l)
