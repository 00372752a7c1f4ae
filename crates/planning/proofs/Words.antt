-- Words put one behind the other, and rows looked at one after the other. Assumes nothing.
use mathlib.Core.Path.{◌≡◌, refl, sym, ◌∙◌}
use mathlib.Core.Bool.{Bool, false, ◌&&◌}
use mathlib.Core.List.{List, [], ◌∷◌}
use Rattle.std.specs.Prelude.{Option, Some, None}
use Prim.Native.Nat.{ℕ, suc, ◌+◌, ◌*◌, ◌-◌, ◌≤◌, ◌<◌}
use native.Mathlib.Decide.{dec_le}
use native.Mathlib.Omega.{arith}
use lib.Dec.{eqb, ltb}
use borrow.Author.Tests.{lt-ltb, le-ltb}
use lib.ListN.{length, get_or, set, length-set}
use lib.Seq.{get_or-set_same, get_or-set_other}
use Rattle.rows.specs.declared.document.FieldSelection.{FieldSelection}
use Rattle.graphql.specs.Complete.{Definition, definition_of}
use Rattle.planning.specs.Expected.{expected_of}
use Rattle.planning.specs.declared.expected.Expected.{Expected}
use Rattle.planning.specs.Plans.{word_at, definition_code, schema, FirstWith, PutRow, PutHead, PutFields}

unfoldable pub put_all : List ℕ → (at column : ℕ) → List ℕ → List ℕ
put_all l at column [] = l
put_all l at column (v ∷ vs) = put_all (set l (at + column) v) at (suc column) vs

pub put_length : (vs l : List ℕ) (at column : ℕ) → length (put_all l at column vs) ≡ length l
unfolding put_all
put_length [] l at column = refl
put_length (v ∷ vs) l at column = put_length vs (set l (at + column) v) at (suc column) ∙ length-set l (at + column) v

pub put_before : (vs l : List ℕ) (at column i : ℕ) → i < at + column → get_or (put_all l at column vs) i 0 ≡ get_or l i 0
unfolding put_all
put_before [] l at column i h = refl
put_before (v ∷ vs) l at column i h =
    put_before vs (set l (at + column) v) at (suc column) i (omega arith) ∙ get_or-set_other l (at + column) i v 0 (λ e. omega arith)

pub put_behind : (vs l : List ℕ) (at column i : ℕ) → at + (column + length vs) ≤ i → get_or (put_all l at column vs) i 0 ≡ get_or l i 0
unfolding put_all
put_behind [] l at column i h = refl
put_behind (v ∷ vs) l at column i h =
    put_behind vs (set l (at + column) v) at (suc column) i (omega arith) ∙ get_or-set_other l (at + column) i v 0 (λ e. omega arith)

pub put_at : (vs l : List ℕ) (at column j : ℕ) → column ≤ j → j < column + length vs → at + (column + length vs) ≤ length l
    → get_or (put_all l at column vs) (at + j) 0 ≡ get_or vs (j - column) 0
unfolding put_all
put_at [] l at column j a b r = absurd (omega arith)
put_at (v ∷ vs) l at column j a b r =
    go (dec_le j column) (λ x. put_at vs (set l (at + column) v) at (suc column) j (omega arith) (omega arith) (rw (length-set l (at + column) v)
    (omega arith)))
  where
    go : Dec (j ≤ column) → (column < j → get_or (put_all (set l (at + column) v) at (suc column) vs) (at + j) 0 ≡ get_or vs (j - suc column) 0)
        → get_or (put_all (set l (at + column) v) at (suc column) vs) (at + j) 0 ≡ get_or (v ∷ vs) (j - column) 0
    go (yes x) later =
        let e : j ≡ column = omega arith in
        let z : column - column ≡ 0 = omega arith in
        rw (e, z) (put_before vs (set l (at + column) v) at (suc column) (at + column) (omega arith)
        ∙ get_or-set_same l (at + column) v 0 (omega arith))
    go (no x) later =
        let z : j - column ≡ suc (j - suc column) = omega arith in
        rw z (later (omega arith))

-- the six words of a group's row
pub put_row : {refs types fields plans : List ℕ} {object row selection own : ℕ} {field : FieldSelection} {wanted : Expected}
    → 8 * row + 8 ≤ length plans
    → own ≡ definition_code (definition_of (schema types fields) object field.name)
    → ((d : Option Definition) → own ≡ definition_code d → wanted ≡ expected_of refs types fields d field.ty)
    → PutRow refs types fields object row selection field plans
    (set (set (set (set (set (set plans (8 * row + 0) selection) (8 * row + 1) own) (8 * row + 2) field.name) (8 * row + 3) field.key)
    (8 * row + 4) wanted.what) (8 * row + 5) wanted.of)
unfolding put_all
put_row {plans = plans'} {row = row'} {selection = selection'} {own = own'} {field = field'} {wanted = wanted'} l d w =
    let vs : List ℕ = selection' ∷ own' ∷ field'.name ∷ field'.key ∷ wanted'.what ∷ wanted'.of ∷ [] in
    let is = w _ d in
    record {
      kept = record { sized = put_length vs plans' (8 * row') 0; same = λ i h. put_before vs plans' (8 * row') 0 i (omega arith) };
      first = put_at vs plans' (8 * row') 0 0 (omega arith) (omega arith) (omega arith);
      definition = put_at vs plans' (8 * row') 0 1 (omega arith) (omega arith) (omega arith) ∙ d;
      name = put_at vs plans' (8 * row') 0 2 (omega arith) (omega arith) (omega arith);
      key = put_at vs plans' (8 * row') 0 3 (omega arith) (omega arith) (omega arith);
      what = put_at vs plans' (8 * row') 0 4 (omega arith) (omega arith) (omega arith) ∙ rw is;
      of = put_at vs plans' (8 * row') 0 5 (omega arith) (omega arith) (omega arith) ∙ rw is;
    }

-- the five words of a head
pub put_head : {plans : List ℕ} {at by groups count plan group : ℕ} → 8 * at + 8 ≤ length plans
    → PutHead at by groups count plan group plans
    (set (set (set (set (set plans (8 * at + 0) by) (8 * at + 1) groups) (8 * at + 2) count) (8 * at + 3) plan) (8 * at + 4) group)
unfolding put_all
put_head {plans = plans'} {at = at'} {by = by'} {groups = groups'} {count = count'} {plan = plan'} {group = group'} l =
    let vs : List ℕ = by' ∷ groups' ∷ count' ∷ plan' ∷ group' ∷ [] in
    record {
      kept = record { sized = put_length vs plans' (8 * at') 0; same = λ i h. put_before vs plans' (8 * at') 0 i (omega arith) };
      is_by = put_at vs plans' (8 * at') 0 0 (omega arith) (omega arith) (omega arith);
      is_groups = put_at vs plans' (8 * at') 0 1 (omega arith) (omega arith) (omega arith);
      is_fields = put_at vs plans' (8 * at') 0 2 (omega arith) (omega arith) (omega arith);
      is_plan = put_at vs plans' (8 * at') 0 3 (omega arith) (omega arith) (omega arith);
      is_group = put_at vs plans' (8 * at') 0 4 (omega arith) (omega arith) (omega arith);
      behind = λ i h. put_behind vs plans' (8 * at') 0 i (omega arith);
    }

-- ---- the search for a key

pub record Seeking (plans : List ℕ) (first groups key i : ℕ) : Type 0 where
  pub below : i ≤ groups
  pub others : (group : ℕ) → group < i → word_at plans (first + group) 3 ≡ key → ⊥

module _ (plans : List ℕ) (first groups key : ℕ) where
  pub seek_begin : Seeking plans first groups key 0
  seek_begin = record { below = omega arith; others = λ group l e. omega arith }

  module _ {i got : ℕ} (a : Seeking plans first groups key i) (l : i < groups) (e : got ≡ word_at plans (first + i) 3) where
    pub seek_next : (got ≡ key → ⊥) → Seeking plans first groups key (i + 1)
    seek_next n = record { below = omega arith; others = λ group k. go group k (dec_le i group) }
      where
        go : (group : ℕ) → group < i + 1 → Dec (i ≤ group) → word_at plans (first + group) 3 ≡ key → ⊥
        go group k (yes x) z = let s : i ≡ group = omega arith in n (e ∙ (rw s z))
        go group k (no x) z = a.others group (omega arith) z

    pub seek_found : got ≡ key → FirstWith plans first groups key (Some i)
    seek_found n = (l, record { within = omega arith; others = a.others; found = λ k. sym e ∙ n })

  pub seek_none : {i : ℕ} → Seeking plans first groups key i → groups ≤ i → FirstWith plans first groups key None
  seek_none {i} a l = record { within = omega arith; others = λ group k. a.others group (omega arith); found = λ k. absurd (omega arith) }

pub ruleset seeking = (seek_begin, seek_next, seek_found, seek_none)

-- ---- the rows of fields

module _ (list owners : List ℕ) (first : ℕ) {plans : List ℕ} where
  pub fields_begin : PutFields list owners first 0 plans plans
  fields_begin = record {
    kept = record { sized = refl; same = λ i h. refl };
    fields = λ i l. absurd (omega arith);
    owns = λ i l. absurd
        (omega arith);
  }

  pub fields_next : {now : List ℕ} {i count : ℕ} → PutFields list owners first i plans now → i < count → 8 * (first + count) ≤ length plans
      → PutFields list owners first (i + 1) plans (set (set now (8 * (first + i) + 0) (get_or list i 0)) (8 * (first + i) + 1) (get_or owners i 0))
  unfolding put_all
  fields_next {now = now'} {i = i'} {count = count'} a c r =
      let vs : List ℕ = get_or list i' 0 ∷ get_or owners i' 0 ∷ [] in
      record {
        kept = record {
          sized = put_length vs now' (8 * (first + i')) 0 ∙ a.kept.sized;
          same = λ j h. put_before vs now' (8 * (first + i')) 0 j (omega arith) ∙ a.kept.same j h;
        };
        fields = λ j l. fields' j l (dec_le i' j);
        owns = λ j l. owns' j l (dec_le i' j);
      }
    where
      there : 8 * (first + i') + 8 ≤ length now'
      there = omega (arith, a.kept.sized)

      fields' : (j : ℕ) → j < i' + 1 → Dec (i' ≤ j) → word_at (put_all now' (8 * (first + i')) 0 (get_or list i' 0 ∷ get_or owners i' 0 ∷ []))
          (first + j) 0 ≡ get_or list j 0
      fields' j l (yes x) =
          let e : j ≡ i' = omega arith in
          rw e (put_at (get_or list i' 0 ∷ get_or owners i' 0 ∷ []) now' (8 * (first + i')) 0 0 (omega arith) (omega arith) (omega (arith, there)))
      fields' j l (no x) =
          put_before (get_or list i' 0 ∷ get_or owners i' 0 ∷ []) now' (8 * (first + i')) 0 (8 * (first + j) + 0) (omega arith)
          ∙ a.fields j (omega arith)

      owns' : (j : ℕ) → j < i' + 1 → Dec (i' ≤ j) → word_at (put_all now' (8 * (first + i')) 0 (get_or list i' 0 ∷ get_or owners i' 0 ∷ []))
          (first + j) 1 ≡ get_or owners j 0
      owns' j l (yes x) =
          let e : j ≡ i' = omega arith in
          rw e (put_at (get_or list i' 0 ∷ get_or owners i' 0 ∷ []) now' (8 * (first + i')) 0 1 (omega arith) (omega arith) (omega (arith, there)))
      owns' j l (no x) =
          put_before (get_or list i' 0 ∷ get_or owners i' 0 ∷ []) now' (8 * (first + i')) 0 (8 * (first + j) + 1) (omega arith) ∙ a.owns j (omega arith)

  pub fields_end : {now : List ℕ} {i count : ℕ} → PutFields list owners first i plans now → i ≤ count → count ≤ i
      → PutFields list owners first count plans now
  fields_end {i = i'} {count = count'} a l k = let e : count' ≡ i' = omega arith in rw e a

pub ruleset fielding = (fields_begin, fields_next, fields_end)

-- ---- a head that is looked at

module _ (plans : List ℕ) (top row plan group object : ℕ) where
  abbrev looked : Bool
  looked = ltb row top && (eqb (word_at plans row 0) (32768 + object) && (eqb (word_at plans row 3) plan && eqb (word_at plans row 4) group))

  pub look_there : {a b d : ℕ} → row < top → a ≡ word_at plans row 0 → b ≡ word_at plans row 3 → d ≡ word_at plans row 4
      → (eqb a (32768 + object) && (eqb b plan && eqb d group)) ≡ looked
  look_there l x y z = rw (lt-ltb row top l, ← x, ← y, ← z)

  pub look_past : top ≤ row → false ≡ looked
  look_past l = rw (le-ltb row top l)

pub ruleset looking = (look_there, look_past)
