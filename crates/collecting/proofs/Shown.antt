-- What the list and the bits stand for: nothing at first, then one more field or one more fragment. Assumes nothing.
use mathlib.Core.Path.{◌≡◌, refl, ap, ◌∙◌}
use mathlib.Core.Bool.{◌||◌}
use mathlib.Core.List.{List, [], ◌∷◌, ◌++◌}
use Rattle.std.specs.Prelude.{Some, None}
use Prim.Native.Nat.{ℕ, suc, ◌+◌, ◌≤◌, ◌<◌}
use native.Mathlib.Decide.{dec_le}
use native.Mathlib.Numerals.{add-one}
use native.Mathlib.Omega.{arith}
use lib.Dec.{eqb}
use lib.ListN.{length, get_or, set, length-set}
use lib.Seq.{get_or-set_same, get_or-set_other, take-suc-set}
use Rattle.rows.specs.Document.{field_selection}
use Rattle.codes.specs.Outcome.{most_collected}
use Rattle.graphql.specs.Lookup.{any, fragment_named}
use Rattle.graphql.specs.Collect.{Group, Collected, none_yet, visit, grouped}
use Rattle.collecting.specs.Visited.{is_marked}
use Rattle.collecting.specs.Collecting.{FieldRow, groups_of, Shows}
use Rattle.collecting.specs.declared.collect.Gathered.{Gathered}
use Rattle.collecting.proofs.Bits.{unmarked}
use Rattle.collecting.proofs.Names.{same_row, other_name}

groups_more : (selections : List ℕ) (groups : List Group) (rows : List ℕ) (row : ℕ)
    → groups_of selections groups (rows ++ (row ∷ [])) ≡ grouped (field_selection selections row).key row (groups_of selections groups rows)
unfolding groups_of
groups_more selections groups [] row = refl
groups_more selections groups (first ∷ rows) row = groups_more selections (grouped (field_selection selections first).key first groups) rows row

module _ (selections fragments : List ℕ) where
  -- nothing was collected
  pub shows_none : {list : List ℕ} → length list ≡ most_collected → Shows selections fragments list (record { visited = 0; count = 0 }) none_yet
  unfolding groups_of any
  shows_none e = record {
    room = e;
    few = omega arith;
    counted = refl;
    groups = refl;
    fields = λ i l. absurd (omega arith);
    marked = λ name row h. unmarked row;
  }

  module _ {list : List ℕ} {g : Gathered} {c : Collected} (s : Shows selections fragments list g c) where
    -- one more field
    pub shows_field : (row : ℕ) → g.count < most_collected → FieldRow selections row
        → Shows selections fragments (set list g.count row) (record { visited = g.visited; count = g.count + 1 })
        (record { visited = c.visited; groups = grouped (field_selection selections row).key row c.groups; count = suc c.count })
    shows_field row l f = record {
      room = length-set list g.count row ∙ s.room;
      few = omega arith;
      counted = rw add-one (ap suc s.counted);
      groups = rw (add-one, take-suc-set list g.count row there, groups_more, s.groups);
      fields = λ i h. go i h (dec_le g.count i);
      marked = s.marked;
    }
      where
        there : g.count < length list
        there = omega (arith, s.room)

        go : (i : ℕ) → i < g.count + 1 → Dec (g.count ≤ i) → FieldRow selections (get_or (set list g.count row) i 0)
        go i h (yes k) = let e : i ≡ g.count = omega arith in rw (e, get_or-set_same list g.count row 0 there) f
        go i h (no k) = rw (get_or-set_other list g.count i row 0 (λ e. omega arith)) (s.fields i (omega arith))

    -- a name that no fragment has needs no bit
    pub shows_undefined : (name : ℕ) → fragment_named fragments name ≡ None → Shows selections fragments list g (visit name c)
    unfolding visit any
    shows_undefined name e = record {
      room = s.room;
      few = s.few;
      counted = s.counted;
      groups = s.groups;
      fields = s.fields;
      marked = λ name' row' e'. rw (other_name fragments name name' row' e e') (s.marked name' row' e');
    }

    -- one more fragment was visited
    pub shows_visited : (name row bits : ℕ) → fragment_named fragments name ≡ Some row
        → ((other : ℕ) → is_marked other bits ≡ (eqb other row || is_marked other g.visited))
        → Shows selections fragments list (record { visited = bits; count = g.count }) (visit name c)
    unfolding visit any
    shows_visited name row bits e h = record {
      room = s.room;
      few = s.few;
      counted = s.counted;
      groups = s.groups;
      fields = s.fields;
      marked = λ name' row' e'. rw (same_row fragments name row name' row' e e', h row', s.marked name' row' e');
    }
