-- How the marks of the words met follow the rows: none at first, and with each row its word. Assumes nothing.
use mathlib.Core.Path.{◌≡◌, refl, sym, ◌∙◌}
use mathlib.Core.Bool.{Bool, true, false, not, and-true}
use mathlib.Core.List.{List}
use Prim.Native.Nat.{ℕ, ◌+◌, ◌≤◌, ◌<◌}
use native.Mathlib.Numerals.{add-one}
use native.Mathlib.Omega.{arith}
use lib.Dec.{eqb}
use lib.ListN.{length, get_or, set, length-set, replicate, length-replicate, get_or-replicate}
use lib.Seq.{get_or-set_same, get_or-set_other}
use borrow.Author.Tests.{eqb-true, eqb-false, eq-eqb, ne_eqb}
use Rattle.rows.specs.Rows.{all, cell}
use Rattle.rules.specs.Rows.{is_new}
use Rattle.rules.specs.Marks.{Marked, unmet}
use Rattle.rows.proofs.Every.{and-false}

module _ (t : List ℕ) (width column first : ℕ) where
  -- a word that is met, and one that is another than the row's
  unmet_same : (i word : ℕ) → word ≡ cell t width (first + i) column → false ≡ unmet t width column first (i + 1) word
  unfolding all
  unmet_same i word e = rw (add-one, eq-eqb word (cell t width (first + i) column) e) (sym (and-false (unmet t width column first i word)))

  unmet_other : (i word : ℕ) → (word ≡ cell t width (first + i) column → ⊥) → unmet t width column first i word ≡ unmet t width column first (i + 1) word
  unfolding all
  unmet_other i word n = rw (add-one, ne_eqb word (cell t width (first + i) column) n) (sym (and-true (unmet t width column first i word)))

  -- nothing is met
  pub met_none : Marked 512 (unmet t width column first 0) (replicate 512 false)
  unfolding all
  met_none = record { sized = length-replicate {A = Bool} 512 false; marked = λ word h. rw (get_or-replicate {A = Bool} 512 word false false h) }

  module _ (i : ℕ) (marks : List Bool) (m : Marked 512 (unmet t width column first i) marks) where
    -- a row is new where its word has no mark
    pub met_new : (word : ℕ) → word ≡ cell t width (first + i) column → word < 512 → not (get_or marks word false) ≡ is_new t width column first i
    unfolding is_new
    met_new word e h = rw (m.marked word h, e)

    -- the row's word is marked
    pub met_one : (word : ℕ) → word ≡ cell t width (first + i) column → word < 512 → Marked 512 (unmet t width column first (i + 1)) (set marks word true)
    met_one word e h =
        record { sized = length-set marks word true ∙ m.sized; marked = λ other l. go other l (eqb other word) refl }
      where
        go : (other : ℕ) → other < 512 → (b : Bool) → eqb other word ≡ b
            → not (get_or (set marks word true) other false) ≡ unmet t width column first (i + 1) other
        go other l true s =
            let n : other ≡ word = eqb-true other word s in
            let k : word < length marks = omega (arith, m.sized) in
            rw (n, get_or-set_same marks word true false k) (unmet_same i word e)
        go other l false s =
            let n : other ≡ word → ⊥ = eqb-false other word s in
            rw (get_or-set_other marks word other true false n, m.marked other l) (unmet_other i other (λ f. n (f ∙ sym e)))

    -- a word that has no mark of its own
    pub met_past : 512 ≤ cell t width (first + i) column → Marked 512 (unmet t width column first (i + 1)) marks
    met_past h =
        record { sized = m.sized; marked = λ other l. m.marked other l ∙ unmet_other i other (λ f. omega arith) }
