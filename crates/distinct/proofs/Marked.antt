-- How marks follow the numbers that are taken, and which sets are free after one more selection or fragment. Assumes nothing.
use mathlib.Core.Path.{◌≡◌, refl, sym, ◌∙◌}
use mathlib.Core.Bool.{Bool, true, false, not, ◌&&◌, and-true, and_assoc}
use mathlib.Core.List.{List}
use Prim.Native.Nat.{ℕ, ◌+◌, ◌≤◌, ◌<◌}
use native.Mathlib.Nat.{zero-add}
use native.Mathlib.Numerals.{add-one}
use native.Mathlib.Omega.{arith}
use lib.Dec.{eqb}
use lib.ListN as ListN
use lib.ListN.{length, get_or, set, length-set, replicate, length-replicate, get_or-replicate}
use lib.Seq.{get_or-set_same, get_or-set_other}
use borrow.Author.Tests.{eqb-true, eqb-false, ne_eqb}
use Rattle.rows.specs.Layout.{selection_width, fragment_width}
use Rattle.rows.specs.Rows.{all, cell, rows_of}
use Rattle.rules.specs.Rows.{is_new}
use Rattle.rows.specs.Document.{fragment_at}
use Rattle.rules.specs.Document.{owned_set, owns_other, owned_nowhere, selection_owns_alone, fragment_owns_alone}
use Rattle.std.specs.Prelude.{Option, Some, None}
use Rattle.rows.proofs.Every.{and-false, all_same}
use Rattle.rules.specs.Marks.{Marked}
use Rattle.distinct.specs.Marks.{free_of_selections, free_of_fragments}

-- one number more is taken
pub marked_one : (free after : ℕ → Bool) (marks : List Bool) (word : ℕ) → Marked 4096 free marks → word < 4096
    → ((n : ℕ) → after n ≡ (free n && not (eqb n word))) → Marked 4096 after (set marks word true)
marked_one free after marks word m h e =
    record { sized = length-set marks word true ∙ m.sized; marked = λ n l. go n l (eqb n word) refl }
  where
    go : (n : ℕ) → n < 4096 → (b : Bool) → eqb n word ≡ b → not (get_or (set marks word true) n false) ≡ after n
    go n l true s =
        let w : n ≡ word = eqb-true n word s in
        let k : word < length marks = omega (arith, m.sized) in
        rw (e n, s, w, get_or-set_same marks word true false k) (sym (and-false (free word)))
    go n l false s =
        rw (e n, s, get_or-set_other marks word n true false (eqb-false n word s), m.marked n l) (sym (and-true (free n)))

-- what is taken has no mark of its own
pub marked_same : (free after : ℕ → Bool) (marks : List Bool) → Marked 4096 free marks → ((n : ℕ) → n < 4096 → after n ≡ free n)
    → Marked 4096 after marks
marked_same free after marks m e = record { sized = m.sized; marked = λ n l. m.marked n l ∙ sym (e n l) }

all_free : Marked 4096 (λ n. true) (replicate 4096 false)
all_free = record { sized = length-replicate {A = Bool} 4096 false; marked = λ n h. rw (get_or-replicate {A = Bool} 4096 n false false h) }

module _ (selections : List ℕ) where
  -- before the first selection, all sets but the operation's are free
  pub selections_first : Marked 4096 (free_of_selections selections 0) (set (replicate 4096 false) 0 true)
  unfolding free_of_selections owned_nowhere all
  selections_first =
      marked_one (λ n. true) (free_of_selections selections 0) (replicate 4096 false) 0 all_free (omega arith) (λ n. and-true (not (eqb n 0)))

  free_more : (row n : ℕ) (o : Option ℕ) → owned_set selections row ≡ o
      → free_of_selections selections (row + 1) n ≡ (free_of_selections selections row n && owns_other n o)
  unfolding free_of_selections owned_nowhere all
  free_more row n o e = rw (add-one, e) (sym (and_assoc (not (eqb n 0)) (owned_nowhere selections n row) (owns_other n o)))

  module _ (row : ℕ) (marks : List Bool) (m : Marked 4096 (free_of_selections selections row) marks) where
    -- a selection that owns no set
    pub selection_absent : owned_set selections row ≡ None → Marked 4096 (free_of_selections selections (row + 1)) marks
    selection_absent e =
        marked_same (free_of_selections selections row) (free_of_selections selections (row + 1)) marks m
        (λ n l. free_more row n None e ∙ and-true (free_of_selections selections row n))

    module _ (set : ℕ) (e : owned_set selections row ≡ Some set) where
      -- one that owns a set without a mark
      pub selection_past : 4096 ≤ set → Marked 4096 (free_of_selections selections (row + 1)) marks
      selection_past h =
          marked_same (free_of_selections selections row) (free_of_selections selections (row + 1)) marks m
          (λ n l. free_more row n (Some set) e ∙ (rw (ne_eqb n set (λ f. omega arith)) (and-true (free_of_selections selections row n))))

      -- and one whose set has a mark
      pub selection_marked : set < 4096 → Marked 4096 (free_of_selections selections (row + 1)) (ListN.set marks set true)
      selection_marked h =
          marked_one (free_of_selections selections row) (free_of_selections selections (row + 1)) marks set m h (λ n. free_more row n (Some set) e)

      pub selection_told : set < 4096 → not (get_or marks set false) ≡ selection_owns_alone selections row
      unfolding free_of_selections
      selection_told h = m.marked set h ∙ (rw e)

  module _ (fragments : List ℕ) where
    -- before the first fragment, those that no selection owns are free
    pub fragments_first : (marks : List Bool) → Marked 4096 (free_of_selections selections (rows_of selections selection_width)) marks
        → Marked 4096 (free_of_fragments selections fragments 0) marks
    unfolding free_of_fragments all
    fragments_first marks m =
        marked_same (free_of_selections selections (rows_of selections selection_width)) (free_of_fragments selections fragments 0) marks m
        (λ n l. and-true (free_of_selections selections (rows_of selections selection_width) n))

    free_fragment : (row n : ℕ)
        → free_of_fragments selections fragments (row + 1) n ≡ (free_of_fragments selections fragments row n && not (eqb n (fragment_at fragments row).set))
    unfolding free_of_fragments fragment_at all
    free_fragment row n =
        rw add-one
        (sym (and_assoc (free_of_selections selections (rows_of selections selection_width) n)
        (all (λ j. not (eqb n (cell fragments fragment_width j 2))) row)
        (not (eqb n (cell fragments fragment_width row 2)))))

    module _ (row : ℕ) (marks : List Bool) (m : Marked 4096 (free_of_fragments selections fragments row) marks) where
      pub fragment_past : 4096 ≤ (fragment_at fragments row).set → Marked 4096 (free_of_fragments selections fragments (row + 1)) marks
      fragment_past h =
          marked_same (free_of_fragments selections fragments row) (free_of_fragments selections fragments (row + 1)) marks m
          (λ n l. free_fragment row n
          ∙ (rw (ne_eqb n (fragment_at fragments row).set (λ f. omega arith)) (and-true (free_of_fragments selections fragments row n))))

      pub fragment_marked : (fragment_at fragments row).set < 4096
          → Marked 4096 (free_of_fragments selections fragments (row + 1)) (ListN.set marks (fragment_at fragments row).set true)
      fragment_marked h =
          marked_one (free_of_fragments selections fragments row) (free_of_fragments selections fragments (row + 1)) marks
          (fragment_at fragments row).set m h
          (free_fragment row)

      pub fragment_told : (fragment_at fragments row).set < 4096
          → not (get_or marks (fragment_at fragments row).set false) ≡ fragment_owns_alone selections fragments row
      unfolding free_of_fragments free_of_selections fragment_at is_new
      fragment_told h =
          m.marked (fragment_at fragments row).set h
          ∙ (rw (all_same (λ j. not (eqb (cell fragments fragment_width (0 + row) 2) (cell fragments fragment_width (0 + j) 2)))
          (λ j. not (eqb (cell fragments fragment_width row 2) (cell fragments fragment_width j 2))) row (λ j k. rw (zero-add row, zero-add j))))
