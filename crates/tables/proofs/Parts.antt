-- Rows that have no parts to compare, by their words. Assumes nothing.
use mathlib.Core.Path.{◌≡◌, refl, sym, ap}
use mathlib.Core.Bool.{Bool, true, false, not, ◌||◌, cond}
use mathlib.Core.List.{List}
use Prim.Native.Nat.{ℕ, zero, suc, ◌+◌, ◌<◌}
use native.Mathlib.Omega.{arith}
use borrow.Author.Tests.{eqb-true, eqb-false, ne_eqb, ltb-true}
use lib.Dec.{ltb, eqb}
use Rattle.rows.specs.Layout.{node_width, answer_width}
use Rattle.rows.specs.Rows.{cell, option_of}
use Rattle.rows.specs.Json.{node_of, node_at, literal_of}
use Rattle.rows.specs.Answers.{answer_at, answer_of}
use Rattle.rules.specs.Rows.{is_new, distinct, other}
use Rattle.rules.specs.Document.{given_of, selected_of}
use Rattle.rules.specs.Json.{node_lawful, literal_parts}
use Rattle.rules.specs.Answers.{answer_parts, answer_names_differ}
use Rattle.distinct.specs.Plain.{is_plain}
use Rattle.tables.specs.ByTable.{plain_answer}
use Rattle.rows.specs.declared.layout.Range.{Range}
use Rattle.rows.specs.declared.document.FieldSelection.{FieldSelection}
use Rattle.rows.specs.declared.document.Selected.TheVariants as selected
use Rattle.rows.specs.declared.json.Literal.TheVariants as literal
use Rattle.rows.specs.declared.answers.Answer.TheVariants as answer
use Rattle.rows.proofs.Every.{all_none, all_each, or_right}
use Rattle.distinct.proofs.Plain.{no_object}

-- only a field is given arguments
pub none_given : (given : List ℕ) (kind name : ℕ) (field : FieldSelection) → (kind ≡ 0 → ⊥) → true ≡ given_of given (selected_of kind name field)
none_given given kind name field n = rw (ne_eqb kind 0 n) (go (eqb kind 1) (eqb kind 2))
  where
    go : (b c : Bool) → true ≡ given_of given (cond b (selected.Spread name) (cond c (selected.Inline (option_of name) field.set) selected.Unknown))
    go true c = refl
    go false true = refl
    go false false = refl

-- only an object literal has keys
pub no_keys : (literals : List ℕ) (kind a b : ℕ) → (kind ≡ 8 → ⊥) → true ≡ literal_parts literals (literal_of kind a b)
no_keys literals kind a b n =
    rw (ne_eqb kind 8 n)
    (go (eqb kind 0) (eqb kind 1) (eqb kind 2) (eqb kind 3) (eqb kind 4) (eqb kind 5) (eqb kind 6) (eqb kind 7) (eqb kind 9) (eqb kind 10))
  where
    go : (b0 b1 b2 b3 b4 b5 b6 b7 b9 b10 : Bool)
        → true
        ≡ literal_parts literals
        (cond b0 literal.Null (cond b1 literal.False (cond b2 literal.True (cond b3 (literal.Natural a) (cond b4 (literal.Negative a)
        (cond b5 (literal.Float (record { start = a; len = b })) (cond b6 (literal.String (record { start = a; len = b }))
        (cond b7 (literal.List (record { first = a; count = b })) (cond b9 (literal.Enum a) (cond b10 (literal.Variable a) literal.Unknown))))))))))
    go true b1 b2 b3 b4 b5 b6 b7 b9 b10 = refl
    go false true b2 b3 b4 b5 b6 b7 b9 b10 = refl
    go false false true b3 b4 b5 b6 b7 b9 b10 = refl
    go false false false true b4 b5 b6 b7 b9 b10 = refl
    go false false false false true b5 b6 b7 b9 b10 = refl
    go false false false false false true b6 b7 b9 b10 = refl
    go false false false false false false true b7 b9 b10 = refl
    go false false false false false false false true b9 b10 = refl
    go false false false false false false false false true b10 = refl
    go false false false false false false false false false true = refl
    go false false false false false false false false false false = refl

-- nothing is asked of the words of nodes of the first four kinds
pub small_node : (pool : List ℕ) (count row kind a b : ℕ) → kind < 4 → true ≡ node_lawful pool count row (node_of kind a b)
small_node pool count row zero a b h = refl
small_node pool count row (suc zero) a b h = refl
small_node pool count row (suc (suc zero)) a b h = refl
small_node pool count row (suc (suc (suc zero))) a b h = refl
small_node pool count row (suc (suc (suc (suc k)))) a b h = absurd (omega arith)

-- only an object node has keys
pub no_object_keys : (nodes : List ℕ) (row : ℕ) → (cell nodes node_width row 0 ≡ 8 → ⊥) → true ≡ is_plain nodes row
unfolding node_at
no_object_keys nodes row n =
    ap (λ (rows : Range). ltb rows.count 2)
    (no_object (cell nodes node_width row 0) (cell nodes node_width row 1) (cell nodes node_width row 2) n)

-- only an object answer has names
pub no_names : (answers : List ℕ) (kind a b c : ℕ) → (kind ≡ 4 → ⊥) → true ≡ answer_parts answers (answer_of kind a b c)
no_names answers kind a b c n = rw (ne_eqb kind 4 n) (go (eqb kind 0) (eqb kind 1) (eqb kind 2) (eqb kind 3) (eqb kind 5))
  where
    go : (b0 b1 b2 b3 b5 : Bool)
        → true
        ≡ answer_parts answers
        (cond b0 answer.Skip (cond b1 answer.Error (cond b2 (answer.Leaf a) (cond b3 (answer.List (record { first = a; count = b }))
        (cond b5 (answer.Echo a) answer.Unknown)))))
    go true b1 b2 b3 b5 = refl
    go false true b2 b3 b5 = refl
    go false false true b3 b5 = refl
    go false false false true b5 = refl
    go false false false false true = refl
    go false false false false false = refl

-- one row has no double
first_differs : (t : List ℕ) (width column first i : ℕ) → i ≡ 0 → is_new t width column first i ≡ true
unfolding is_new
first_differs t width column first i e = rw e (all_none (λ j. other t width column (first + 0) (first + j)))

few_differ : (t : List ℕ) (width column : ℕ) (rows : Range) → rows.count < 2 → distinct t width column rows ≡ true
unfolding distinct
few_differ t width column rows h =
    all_each (is_new t width column rows.first) rows.count (λ i l. first_differs t width column rows.first i (omega arith))

-- an answer by its words
few_names : (answers : List ℕ) (kind a b c : ℕ) → (not (eqb kind 4) || ltb c 2) ≡ true → answer_parts answers (answer_of kind a b c) ≡ true
few_names answers kind a b c h = go (eqb kind 4) refl
  where
    go : (o : Bool) → eqb kind 4 ≡ o → answer_parts answers (answer_of kind a b c) ≡ true
    go true e =
        rw (eqb-true kind 4 e)
        (few_differ answers answer_width 1 (record { first = b; count = c }) (ltb-true c 2 (or_right (not (eqb kind 4)) (ltb c 2) h (rw e))))
    go false e = sym (no_names answers kind a b c (eqb-false kind 4 e))

pub plain_differs : (answers : List ℕ) (row : ℕ) → plain_answer answers row ≡ true → answer_names_differ answers row ≡ true
unfolding answer_at
plain_differs answers row h =
    few_names answers (cell answers answer_width row 0) (cell answers answer_width row 2) (cell answers answer_width row 3)
    (cell answers answer_width row 4) h
