-- Fields put to groups, one after the other: what the rows and the owners stand for. Assumes nothing.
use mathlib.Core.Path.{◌≡◌, refl, sym, ap, ◌∙◌}
use mathlib.Core.Bool.{Bool, true, false}
use Rattle.std.specs.Prelude.{Option, Some, None}
use mathlib.Core.List.{List, [], ◌∷◌, ◌++◌}
use Prim.Native.Nat.{ℕ, zero, suc, ◌+◌, ◌*◌, ◌≤◌, ◌<◌}
use native.Mathlib.Nat.{add-zero}
use native.Mathlib.Decide.{dec_le}
use native.Mathlib.Numerals.{add-one}
use native.Mathlib.Omega.{arith}
use lib.Dec.{eqb}
use lib.ListN.{length, get_or, set, take, length-set}
use lib.Seq.{get_or-set_same, get_or-set_other, take-suc}
use borrow.Author.Tests.{eqb-true, eqb-false, eq-eqb, ne_eqb}
use Rattle.rows.specs.Limits.{most_fields}
use Rattle.rows.specs.Schema.{type_at}
use Rattle.rows.specs.Document.{field_selection}
use Rattle.rows.specs.declared.document.FieldSelection.{FieldSelection}
use Rattle.codes.specs.Outcome.{most_collected}
use Rattle.graphql.specs.Collect.{Group, grouped}
use Rattle.collecting.specs.Collecting.{FieldRow, groups_of}
use Rattle.planning.specs.Expected.{Referred}
use Rattle.planning.specs.Plans.{word_at, first_of, Kept, picked, rest, group_of, tabled, GroupRow, Which, FirstWith, PutRow, Groupable, owned, Grouping}

-- ---- lists of groups

pub tabled_same : (f g : ℕ → Group) (first n : ℕ) → ((j : ℕ) → first ≤ j → j < first + n → f j ≡ g j) → tabled f first n ≡ tabled g first n
unfolding tabled
tabled_same f g first zero h = refl
tabled_same f g first (suc n) h =
    rw (h first (omega arith) (omega arith), tabled_same f g (suc first) n (λ j a b. h j (omega arith) (omega arith)))

tabled_more : (f : ℕ → Group) (first n : ℕ) → tabled f first (suc n) ≡ tabled f first n ++ (f (first + n) ∷ [])
unfolding tabled
tabled_more f first zero = rw (add-zero first)
tabled_more f first (suc n) =
    let e : first + suc n ≡ suc first + n = omega arith in
    rw e (ap (λ (l : List Group). f first ∷ l) (tabled_more f (suc first) n))

module _ (key row : ℕ) where
  grouped_new : (f : ℕ → Group) (first n : ℕ) → ((j : ℕ) → first ≤ j → j < first + n → (f j).key ≡ key → ⊥)
      → grouped key row (tabled f first n) ≡ tabled f first n ++ (record { key = key; first = row; more = [] } ∷ [])
  unfolding grouped tabled
  grouped_new f first zero h = refl
  grouped_new f first (suc n) h =
      rw (ne_eqb (f first).key key (h first (omega arith) (omega arith)), grouped_new f (suc first) n (λ j a b. h j (omega arith) (omega arith)))

  grouped_old : (f g : ℕ → Group) (at first n : ℕ) → first ≤ at → at < first + n → ((j : ℕ) → first ≤ j → j < at → (f j).key ≡ key → ⊥)
      → (f at).key ≡ key
      → g at ≡ record { key = (f at).key; first = (f at).first; more = (f at).more ++ (row ∷ []) } → ((j : ℕ) → (j ≡ at → ⊥) → f j ≡ g j)
      → grouped key row (tabled f first n) ≡ tabled g first n
  unfolding grouped tabled
  grouped_old f g at first zero a b o k e same = absurd (omega arith)
  grouped_old f g at first (suc n) a b o k e same =
      go (dec_le at first) (λ x. grouped_old f g at (suc first) n x (omega arith) (λ j y z. o j (omega arith) z) k e same)
    where
      go : Dec (at ≤ first) → (suc first ≤ at → grouped key row (tabled f (suc first) n) ≡ tabled g (suc first) n)
          → grouped key row (tabled f first (suc n)) ≡ tabled g first (suc n)
      go (yes l) later =
          let s : first ≡ at = omega arith in
          rw (s, eq-eqb (f at).key key k, e, tabled_same f g (suc at) n (λ j x y. same j (λ z. omega arith)))
      go (no l) later =
          rw (ne_eqb (f first).key key (o first (omega arith) (omega arith)), same first (λ z. omega arith), later (omega arith))

groups_more : (selections : List ℕ) (groups : List Group) (rows : List ℕ) (row : ℕ)
    → groups_of selections groups (rows ++ (row ∷ [])) ≡ grouped (field_selection selections row).key row (groups_of selections groups rows)
unfolding groups_of
groups_more selections groups [] row = refl
groups_more selections groups (first ∷ rows) row = groups_more selections (grouped (field_selection selections first).key first groups) rows row

-- ---- the members of a group

module _ (row owner : ℕ → ℕ) (group : ℕ) where
  picked_none : (n : ℕ) → ((i : ℕ) → i < n → owner i ≡ group → ⊥) → picked row owner group n ≡ []
  unfolding picked
  picked_none zero h = refl
  picked_none (suc n) h = rw (ne_eqb (owner n) group (h n (omega arith)), picked_none n (λ i l. h i (omega arith)))

  pub picked_same : (row' owner' : ℕ → ℕ) (n : ℕ) → ((i : ℕ) → i < n → row i ≡ row' i) → ((i : ℕ) → i < n → owner i ≡ owner' i)
      → picked row owner group n ≡ picked row' owner' group n
  unfolding picked
  picked_same row' owner' zero r o = refl
  picked_same row' owner' (suc n) r o =
      rw (o n (omega arith), r n (omega arith), picked_same row' owner' n (λ i l. r i (omega arith)) (λ i l. o i (omega arith)))

rest_more : (rows : List ℕ) (first row : ℕ) → rows ≡ first ∷ rest rows
    → (rows ++ (row ∷ []) ≡ first ∷ rest (rows ++ (row ∷ []))) × (rest (rows ++ (row ∷ [])) ≡ rest rows ++ (row ∷ []))
unfolding rest
rest_more [] first row e = absurd (let z : ◌≡◌ {A = ℕ} 0 1 = cc in omega arith)
rest_more (a ∷ rows) first row e = let s : a ≡ first = cc in (rw s, refl)

-- one field more, and the group that it belongs to
module _ (list owners : List ℕ) (i to : ℕ) (l : i < length owners) where
  before : (group : ℕ) → owned list (set owners i to) group i ≡ owned list owners group i
  before group =
      picked_same (λ j. get_or list j 0) (λ j. get_or (set owners i to) j 0) group (λ j. get_or list j 0) (λ j. get_or owners j 0) i
      (λ j m. refl) (λ j m. get_or-set_other owners i j to 0 (λ e. omega arith))

  owned_mine : owned list (set owners i to) to (suc i) ≡ owned list owners to i ++ (get_or list i 0 ∷ [])
  unfolding picked
  owned_mine = rw (get_or-set_same owners i to 0 l, eq-eqb to to refl, before to)

  owned_other : (group : ℕ) → (to ≡ group → ⊥) → owned list (set owners i to) group (suc i) ≡ owned list owners group i
  unfolding picked
  owned_other group n = rw (get_or-set_same owners i to 0 l, ne_eqb to group n, before group)

-- ---- rows that stand

pub kept_on : {a b d : List ℕ} (m n : ℕ) → m ≤ n → Kept a m b → Kept b n d → Kept a m d
kept_on m n l p q = record { sized = q.sized ∙ p.sized; same = λ i k. q.same i (omega arith) ∙ p.same i k }

pub row_same : {refs types fields selections plans plans' : List ℕ} {object : ℕ} (row : ℕ)
    → ((column : ℕ) → column < 8 → word_at plans' row column ≡ word_at plans row column)
    → GroupRow refs types fields selections object plans row → GroupRow refs types fields selections object plans' row
row_same row p g = record {
  field = rw (p 0 (omega arith)) g.field;
  definition = rw (p 1 (omega arith), p 0 (omega arith)) g.definition;
  name = rw (p 2 (omega arith), p 0 (omega arith)) g.name;
  key = rw (p 3 (omega arith), p 0 (omega arith)) g.key;
  what = rw (p 4 (omega arith), p 0 (omega arith)) g.what;
  of = rw (p 5 (omega arith), p 0 (omega arith)) g.of;
}

pub row_on : {refs types fields selections plans plans' : List ℕ} {object : ℕ} (row words : ℕ) → Kept plans words plans' → 8 * row + 8 ≤ words
    → GroupRow refs types fields selections object plans row → GroupRow refs types fields selections object plans' row
row_on row words p l g = row_same row (λ column b. p.same (8 * row + column) (omega arith)) g

pub row_put : {refs types fields selections plans plans' : List ℕ} {object row selection : ℕ} {field : FieldSelection}
    → FieldRow selections selection → field ≡ field_selection selections selection → PutRow refs types fields object row selection field plans plans'
    → GroupRow refs types fields selections object plans' row
row_put f e p = record {
  field = rw p.first f;
  definition = rw (p.first, ← e) p.definition;
  name = rw (p.first, ← e) p.name;
  key = rw (p.first, ← e) p.key;
  what = rw (p.first, ← e) p.what;
  of = rw (p.first, ← e) p.of;
}

module _ {refs types fields selections list : List ℕ} {object first : ℕ} {start plans owners : List ℕ} {groups i : ℕ}
    (a : Grouping refs types fields selections list object first start plans owners groups i) (m : i < most_collected) (n : length list
    ≡ most_collected) where
  abbrev at : ℕ
  at = get_or list i 0

  abbrev key : ℕ
  key = (field_selection selections at).key

  there : i < length owners
  there = omega (arith, a.sized)

  put_so_far : groups_of selections [] (take (suc i) list)
      ≡ grouped key at (tabled (λ group. group_of selections (first_of plans (first + group)) (owned list owners group i)) 0 groups)
  put_so_far =
      let l : i < length list = omega (arith, n) in
      rw (take-suc list i 0 l, groups_more selections [] (take i list) at, a.is)

  other_key : (r : ℕ) → Which plans first groups key r → (j : ℕ) → j < r → (field_selection selections (first_of plans (first + j))).key ≡ key → ⊥
  other_key r w j l e = w.others j l ((a.rows j (omega (arith, w.within))).key ∙ e)

  -- to a group that stands
  pub grouping_old : (to : ℕ) → Which plans first groups key to → to < groups
      → Grouping refs types fields selections list object first start plans (set owners i to) groups (i + 1)
  grouping_old to w l = rw (add-one i) (record {
    kept = a.kept;
    sized = length-set owners i to ∙ a.sized;
    few = omega (arith, a.few);
    rows = a.rows;
    owns = λ j k. owns j k (dec_le i j);
    members = λ group k. members group k (eqb to group) refl;
    single = λ e group k. absurd (omega (arith, a.few));
    is = put_so_far ∙ grouped_old key at
        (λ group. group_of selections (first_of plans (first + group)) (owned list owners group i))
        (λ group. group_of selections (first_of plans (first + group)) (owned list (set owners i to) group (suc i)))
        to 0 groups (omega arith) (omega arith) (λ j x y. other_key to w j y) (sym (a.rows to l).key ∙ w.found l)
        (rw (owned_mine list owners i to there, (rest_more (owned list owners to i) (first_of plans (first + to)) at (a.members to l)).1))
        (λ j z. rw (owned_other list owners i to there j (λ e. z (sym e))));
  })
    where
      owns : (j : ℕ) → j < suc i → Dec (i ≤ j) → get_or (set owners i to) j 0 < groups
      owns j k (yes x) = let e : j ≡ i = omega arith in rw (e, get_or-set_same owners i to 0 there) l
      owns j k (no x) = rw (get_or-set_other owners i j to 0 (λ e. omega arith)) (a.owns j (omega arith))

      members : (group : ℕ) → group < groups → (b : Bool) → eqb to group ≡ b
          → owned list (set owners i to) group (suc i) ≡ first_of plans (first + group) ∷ rest (owned list (set owners i to) group (suc i))
      members group k true e =
          let s : to ≡ group = eqb-true to group e in
          rw (← s, owned_mine list owners i to there) (rest_more (owned list owners to i) (first_of plans (first + to)) at (a.members to l)).0
      members group k false e = rw (owned_other list owners i to there group (eqb-false to group e)) (a.members group k)

  -- to a new one
  pub grouping_new : {plans' : List ℕ} {field : FieldSelection} → Which plans first groups key groups → FieldRow selections at → field
      ≡ field_selection selections at
      → PutRow refs types fields object (first + groups) at field plans plans'
      → Grouping refs types fields selections list object first start plans' (set owners i groups) (groups + 1) (i + 1)
  unfolding rest
  grouping_new {plans' = after} w f e p = rw (add-one i, add-one groups) (record {
    kept = kept_on (8 * first) (8 * (first + groups)) (omega arith) a.kept p.kept;
    sized = length-set owners i groups ∙ a.sized;
    few = omega (arith, a.few);
    rows = λ group k. rows group k (dec_le groups group);
    owns = λ j k. owns j k (dec_le i j);
    members = λ group k. members group k (dec_le groups group);
    single = λ s group k. single (omega arith) group k (dec_le groups group);
    is = put_so_far
        ∙ (grouped_new key at (λ group. group_of selections (first_of plans (first + group)) (owned list owners group i)) 0 groups
        (λ j x y. other_key groups w j (omega arith))
        ∙ sym (tabled_more after_put 0 groups ∙ rw (last, sym (tabled_same before_put after_put 0 groups (λ j x y. same j (omega arith))))));
  })
    where
      first_same : (j : ℕ) → j < groups → first_of after (first + j) ≡ first_of plans (first + j)
      first_same j k = p.kept.same (8 * (first + j) + 0) (omega arith)

      none_yet : owned list owners groups i ≡ []
      none_yet = picked_none (λ j. get_or list j 0) (λ j. get_or owners j 0) groups i (λ j k z. omega (arith, a.owns j k))

      mine : owned list (set owners i groups) groups (suc i) ≡ at ∷ []
      mine = rw (owned_mine list owners i groups there, none_yet)

      before_put : ℕ → Group
      before_put = λ group. group_of selections (first_of plans (first + group)) (owned list owners group i)

      after_put : ℕ → Group
      after_put = λ group. group_of selections (first_of after (first + group)) (owned list (set owners i groups) group (suc i))

      same : (j : ℕ) → j < groups → before_put j ≡ after_put j
      same j k = rw (first_same j k, owned_other list owners i groups there j (λ z. omega arith))

      last : after_put (0 + groups) ≡ record { key = key; first = at; more = [] }
      last = let z : 0 + groups ≡ groups = omega arith in rw (z, mine, p.first)

      rows : (group : ℕ) → group < suc groups → Dec (groups ≤ group) → GroupRow refs types fields selections object after (first + group)
      rows group k (yes x) = let z : group ≡ groups = omega arith in rw z (row_put f e p)
      rows group k (no x) = row_on (first + group) (8 * (first + groups)) p.kept (omega arith) (a.rows group (omega arith))

      owns : (j : ℕ) → j < suc i → Dec (i ≤ j) → get_or (set owners i groups) j 0 < suc groups
      owns j k (yes x) = let z : j ≡ i = omega arith in rw (z, get_or-set_same owners i groups 0 there) (omega arith)
      owns j k (no x) = rw (get_or-set_other owners i j groups 0 (λ z. omega arith)) (omega (arith, a.owns j (omega arith)))

      members : (group : ℕ) → group < suc groups → Dec (groups ≤ group)
          → owned list (set owners i groups) group (suc i) ≡ first_of after (first + group) ∷ rest (owned list (set owners i groups) group (suc i))
      members group k (yes x) = let z : group ≡ groups = omega arith in rw (z, mine, p.first)
      members group k (no x) =
          rw (owned_other list owners i groups there group (λ z. omega arith), first_same group (omega arith)) (a.members group (omega arith))

      single : groups ≡ i → (group : ℕ) → group < suc groups → Dec (groups ≤ group)
          → owned list (set owners i groups) group (suc i) ≡ first_of after (first + group) ∷ []
      single s group k (yes x) = let z : group ≡ groups = omega arith in rw (z, mine, p.first)
      single s group k (no x) =
          rw (owned_other list owners i groups there group (λ z. omega arith), first_same group (omega arith)) (a.single s group (omega arith))

-- ---- one field, as the code puts it

module _ {refs types fields selections list : List ℕ} {first : ℕ} (i : ℕ) {plans owners : List ℕ}
    (w : Groupable refs types fields selections list first (i + 1) plans owners) where
  pub defined_few : (object : ℕ) → (type_at types object).fields.first + (type_at types object).fields.count ≤ most_fields
  defined_few object = w.fitting.defined object

  pub types_referred : Referred refs types
  types_referred = w.fitting.referred

  pub word_fits : get_or list i 0 < 4294967296
  word_fits = omega (arith, (w.field i (omega arith)).there)

  module _ {field : FieldSelection} (e : field ≡ field_selection selections (get_or list i 0)) where
    pub name_fits : field.name < 65536
    name_fits = let l = w.fitting.named (get_or list i 0) (w.field i (omega arith)) in rw e (omega arith)

    pub key_fits : field.key < 65536
    key_fits = let l = w.fitting.keyed (get_or list i 0) (w.field i (omega arith)) in rw e (omega arith)

    which : (groups : ℕ) {o o' : Option ℕ} → FirstWith plans first groups field.key o → o ≡ o'
        → FirstWith plans first groups (field_selection selections (get_or list i 0)).key o'
    which groups h q = rw (← e, ← q) h

    module _ {groups : ℕ} {o : Option ℕ} (h : FirstWith plans first groups field.key o) where
      pub field_old : {object to : ℕ} → o ≡ Some to → (before : List ℕ)
          → Grouping refs types fields selections list object first before plans owners groups i
          → Grouping refs types fields selections list object first before plans (set owners i to) groups (i + 1)
      field_old {to = to'} q before a = grouping_old a (omega (arith, w.few)) w.listed to' (which _ h q).1 (which _ h q).0

      pub field_new : {object : ℕ} {plans' : List ℕ} → o ≡ None
          → PutRow refs types fields object (first + groups) (get_or list i 0) field plans plans'
          → (before : List ℕ) → Grouping refs types fields selections list object first before plans owners groups i
          → Grouping refs types fields selections list object first before plans' (set owners i groups) (groups + 1) (i + 1)
      field_new q p before a = grouping_new a (omega (arith, w.few)) w.listed (which _ h q) (w.field i (omega arith)) e p

pub ruleset putting = (types_referred, defined_few, word_fits, name_fits, key_fits, field_old, field_new)

-- ---- the loop over the fields

module _ {refs types fields selections list : List ℕ} {object first count : ℕ} {plans₀ owners₀ : List ℕ}
    (w : Groupable refs types fields selections list first count plans₀ owners₀) where
  pub grouping_begin : Grouping refs types fields selections list object first plans₀ plans₀ owners₀ 0 0
  unfolding groups_of tabled
  grouping_begin = record {
    kept = record { sized = refl; same = λ i l. refl };
    sized = w.sized;
    few = omega arith;
    rows = λ group l. absurd (omega arith);
    owns = λ i l. absurd (omega arith);
    members = λ group l. absurd (omega arith);
    single = λ e group l. absurd (omega arith);
    is = refl;
  }

  module _ {plans owners : List ℕ} {groups i : ℕ} (a : Grouping refs types fields selections list object first plans₀ plans owners groups i) where
    pub groupable_now : i < count → Groupable refs types fields selections list first (i + 1) plans owners
    groupable_now l = record {
      fitting = w.fitting;
      field = λ j k. w.field j (omega arith);
      few = omega (arith, w.few);
      listed = w.listed;
      sized = a.sized;
      room = omega (arith, w.room, a.kept.sized);
      small = omega (arith, w.small, a.kept.sized);
    }

    pub owners_kept : length owners ≡ length owners₀
    owners_kept = a.sized ∙ sym w.sized

    pub grouping_again : {plans' owners' : List ℕ} {r : ℕ}
        → ((before : List ℕ) → Grouping refs types fields selections list object first before plans owners groups i
        → Grouping refs types fields selections list object first before plans' owners' r (i + 1))
        → Grouping refs types fields selections list object first plans₀ plans' owners' r (i + 1)
    grouping_again f = f plans₀ a

    pub grouping_ended : i ≤ count → count ≤ i → Grouping refs types fields selections list object first plans₀ plans owners groups count
    grouping_ended l k = let e : count ≡ i = omega arith in rw e a

pub ruleset grouping = (grouping_begin, groupable_now, owners_kept, grouping_again, grouping_ended)
