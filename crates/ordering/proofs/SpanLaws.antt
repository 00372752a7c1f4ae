-- The words of a set's spans, read one by one: which is the next that is 0, how long the entries before one are, what a store changes. Each loop of
-- the code goes by the recursion of the definition that it computes. Assumes nothing.
use mathlib.Core.Path.{◌≡◌, refl, sym, ap, ◌∙◌}
use mathlib.Core.Bool.{cond}
use mathlib.Core.List.{List, [], ◌∷◌, ◌++◌, append_assoc}
use Prim.Native.Nat.{ℕ, zero, suc, ◌+◌, ◌-◌, ◌≤◌, ◌<◌, min}
use native.Mathlib.Nat.{not-suc-le-zero, zero-mod, mod-lt}
use native.Mathlib.Numerals.{add-one}
use native.Mathlib.Omega.{arith}
use native.Mathlib.Decide.{ℕ_discrete}
use borrow.Author.Tests.{lt-ltb, le-ltb, le-leb, lt-leb, eq-eqb, ne_eqb}
use lib.ListN.{length, take, drop, get_or, set, replicate, length-take, length-drop, length-set, length-replicate, get_or-replicate, drop_of_length-le, get_or-eq_default, get_or-append}
use lib.Dec.{eqb}
use lib.Seq.{length-take-le, take_all, take-take, take-suc, take_at, drop_at, drop-cons, get_or-take, get_or-drop, get_or-set_other, take-set-lt, drop-set-add, ext_get_or, paste, paste-zero, paste-suc, length-paste}
use Rattle.writing.specs.Wrote.{Moves}
use Rattle.ordering.specs.Spans.{spans_at, open_at, opens, together, Around, Clears, Tally, chosen, next_group, past_choice, span_of, entry_start, Turns, Puts}

-- ---- The words of a set

module _ (spans : List ℕ) (base groups : ℕ) (room : base + groups ≤ length spans) where
  pub spans_length : length (spans_at spans base groups) ≡ groups
  spans_length = length-take groups (drop base spans) ∙ rw (length-drop base spans) (omega arith)

  pub spans_word : (i : ℕ) → i < groups → get_or (spans_at spans base groups) i 0 ≡ get_or spans (base + i) 0
  spans_word i h = get_or-take groups (drop base spans) i 0 h ∙ get_or-drop base spans i 0

  -- one more
  pub spans_more : (i : ℕ) → i < groups → spans_at spans base (suc i) ≡ spans_at spans base i ++ (get_or spans (base + i) 0 ∷ [])
  spans_more i h =
      take-suc (drop base spans) i 0 (rw (length-drop base spans) (omega arith)) ∙ rw (get_or-drop base spans i 0)

-- ---- Those that are 0

pub opens_few : (ws : List ℕ) → opens ws ≤ length ws
unfolding opens
opens_few [] = omega arith
opens_few (zero ∷ ws) = let h = opens_few ws in omega arith
opens_few (suc w ∷ ws) = let h = opens_few ws in omega arith

-- The first ones are not, and are passed over.
pub open_past : (ws : List ℕ) (low j : ℕ) → opens (take low ws) ≡ 0 → low ≤ length ws
    → (open_at ws j ≡ low + open_at (drop low ws) j) × (opens (drop low ws) ≡ opens ws)
unfolding opens open_at
open_past ws zero j h l = (omega arith, refl)
open_past [] (suc low) j h l = absurd (omega arith)
open_past (zero ∷ ws) (suc low) j h l = absurd (omega arith)
open_past (suc w ∷ ws) (suc low) j h l =
    let r = open_past ws low j h (omega arith) in (omega (arith, r.0), r.1)

-- All are.
pub open_all : (ws : List ℕ) (j : ℕ) → opens ws ≡ length ws → j < length ws → open_at ws j ≡ j
unfolding opens open_at
open_all [] j h l = absurd (not-suc-le-zero l)
open_all (zero ∷ ws) zero h l = refl
open_all (zero ∷ ws) (suc j) h l = ap suc (open_all ws j (omega arith) (omega arith))
open_all (suc w ∷ ws) j h l = absurd (omega (arith, opens_few ws))

open_word : (w : ℕ) (ws : List ℕ) (j : ℕ) → w ≡ 0 → j ≡ 0 → open_at (w ∷ ws) j ≡ 0
unfolding open_at
open_word zero ws zero e z = refl
open_word zero ws (suc j) e z = absurd (omega arith)
open_word (suc w) ws j e z = absurd (omega arith)

open_skip : (w : ℕ) (ws : List ℕ) (j : ℕ) → w ≡ 0 → (j ≡ 0 → ⊥) → j < opens (w ∷ ws)
    → (open_at (w ∷ ws) j ≡ suc (open_at ws (j - 1))) × (j - 1 < opens ws)
unfolding open_at opens
open_skip (suc w) ws j e h l = absurd (omega arith)
open_skip zero ws zero e h l = absurd (h refl)
open_skip zero ws (suc j) e h l = let k : j ≡ suc j - 1 = omega arith in (ap (λ (n : ℕ). suc (open_at ws n)) k, omega arith)

open_taken : (w : ℕ) (ws : List ℕ) (j : ℕ) → (w ≡ 0 → ⊥) → j < opens (w ∷ ws)
    → (open_at (w ∷ ws) j ≡ suc (open_at ws j)) × (j < opens ws)
unfolding open_at opens
open_taken zero ws j h l = absurd (h refl)
open_taken (suc w) ws j h l = (refl, l)

-- What holds where the group is looked for: from i on `left` are to be passed over.
pub record Seeking (spans : List ℕ) (base groups skip left i : ℕ) : Type 0 where
  pub room : base + groups ≤ length spans
  pub within : i ≤ groups
  pub found : open_at (spans_at spans base groups) skip ≡ i + open_at (drop i (spans_at spans base groups)) left
  pub some : left < opens (drop i (spans_at spans base groups))

pub seek_begin : {spans : List ℕ} {base groups low skip : ℕ} → base + groups ≤ length spans → low ≤ groups → opens (spans_at spans base low) ≡ 0
    → skip < opens (spans_at spans base groups) → Seeking spans base groups skip skip low
seek_begin {spans} {base} {groups} {low} {skip} room l o h =
    let n = spans_length spans base groups room in
    let r = open_past (spans_at spans base groups) low skip (rw (take-take low groups (drop base spans) l) o) (omega arith) in
    record { room = room; within = l; found = r.0; some = omega (arith, r.1) }

module _ {spans : List ℕ} {base groups skip left i : ℕ} (g : Seeking spans base groups skip left i) (h : i < groups) where
  ws : List ℕ
  ws = drop (suc i) (spans_at spans base groups)

  here : drop i (spans_at spans base groups) ≡ get_or spans (base + i) 0 ∷ ws
  unfolding ws
  here =
      drop-cons (spans_at spans base groups) i 0 (omega (arith, spans_length spans base groups g.room))
      ∙ ap (λ (w : ℕ). w ∷ ws) (spans_word spans base groups g.room i h)

  pub seek_found : get_or spans (base + i) 0 ≡ 0 → left ≡ 0 → i ≡ open_at (spans_at spans base groups) skip
  seek_found e z =
      let r : open_at (drop i (spans_at spans base groups)) left ≡ 0 = rw here (open_word _ ws left e z) in omega (arith, g.found)

  pub seek_open : get_or spans (base + i) 0 ≡ 0 → (left ≡ 0 → ⊥) → Seeking spans base groups skip (left - 1) (i + 1)
  unfolding ws
  seek_open e z =
      let r = open_skip _ ws left e z (rw here at g.some) in
      record {
        room = g.room;
        within = omega arith;
        found = rw add-one (g.found ∙ rw (here, r.0) (omega arith));
        some = rw add-one r.1;
      }

  pub seek_taken : (get_or spans (base + i) 0 ≡ 0 → ⊥) → Seeking spans base groups skip left (i + 1)
  unfolding ws
  seek_taken e =
      let r = open_taken _ ws left e (rw here at g.some) in
      record {
        room = g.room;
        within = omega arith;
        found = rw add-one (g.found ∙ rw (here, r.0) (omega arith));
        some = rw add-one r.1;
      }

-- It is there.
pub seek_end : {spans : List ℕ} {base groups skip left i : ℕ} → Seeking spans base groups skip left i → groups ≤ i → ⊥
unfolding opens
seek_end {spans} {base} {groups} {skip} {left} {i} g h =
    let n = spans_length spans base groups g.room in
    not-suc-le-zero (rw (drop_of_length-le (spans_at spans base groups) {i = i} (omega arith)) at g.some)

-- ---- The next choice

pub chosen_none : (choices : List ℕ) (choice left : ℕ) → length choices ≤ choice → 0 ≡ chosen choices choice left
chosen_none choices choice left h = sym (rw (get_or-eq_default choices 0 h) (zero-mod left))

pub chosen_below : (choices : List ℕ) (choice : ℕ) {left : ℕ} → 0 < left → chosen choices choice left < left
chosen_below choices choice {left} h = mod-lt (get_or choices choice 0) h

-- Where the groups taken are the first ones, those behind them are all open.
pub next_in_order : {spans : List ℕ} (choices : List ℕ) {base groups low taken : ℕ} (choice : ℕ) → Tally spans base groups low taken → low ≡ taken
    → low + chosen choices choice (groups - taken) ≡ next_group spans choices base groups taken choice
next_in_order {spans} choices {base} {groups} {low} {taken} choice t e =
    let ws = spans_at spans base groups in
    let skip = chosen choices choice (groups - taken) in
    let n = spans_length spans base groups t.room in
    let l : low ≤ groups = omega (arith, t.left) in
    let r = open_past ws low skip (rw (take-take low groups (drop base spans) l) t.lowest) (omega arith) in
    let m = length-drop low ws in
    let b : skip < groups - taken = chosen_below choices choice (omega (arith, t.left)) in
    let a = open_all (drop low ws) skip (omega (arith, r.1, t.counted)) (omega arith) in
    sym (r.0 ∙ ap (λ (k : ℕ). low + k) a)

-- Else one is looked for that is there.
pub next_sought : {spans : List ℕ} (choices : List ℕ) {base groups low taken : ℕ} (choice : ℕ) → Tally spans base groups low taken
    → chosen choices choice (groups - taken) < opens (spans_at spans base groups)
next_sought choices {groups = groups} {taken = taken} choice t =
    let b : chosen choices choice (groups - taken) < groups - taken = chosen_below choices choice (omega (arith, t.left)) in omega (arith, t.counted)

pub past_some : (choices : List ℕ) (choice : ℕ) → choice < length choices → suc choice ≡ past_choice choices choice
past_some choices choice h = rw (lt-ltb choice (length choices) h)

pub past_none : (choices : List ℕ) (choice : ℕ) → length choices ≤ choice → choice ≡ past_choice choices choice
past_none choices choice h = rw (le-ltb choice (length choices) h)

-- ---- How long entries are together

together_more : (ws : List ℕ) (w : ℕ) → together (ws ++ (w ∷ [])) ≡ together ws + (w - 1)
unfolding together
together_more [] w = omega arith
together_more (v ∷ ws) w = rw (together_more ws w) (omega arith)

-- What holds where they are added up.
pub record Adding (ws : List ℕ) (start at sum i : ℕ) : Type 0 where
  pub low : sum ≤ at
  pub sums : sum ≡ entry_start (take i ws) start at

pub add_begin : {ws : List ℕ} {start at : ℕ} → start < at → Adding ws start at start 0
unfolding together
add_begin h = record { low = omega arith; sums = omega arith }

pub add_again : {ws : List ℕ} {start at sum next i : ℕ} → Adding ws start at sum i → i < length ws → next ≡ min (sum + (get_or ws i 0 - 1)) at
    → Adding ws start at next (i + 1)
add_again {ws} {i = i} g h e = record {
  low = omega arith;
  sums = rw (add-one, take-suc ws i 0 h, together_more (take i ws) (get_or ws i 0)) (omega (arith, e, g.sums));
}

pub add_end : {ws : List ℕ} {start at sum i : ℕ} → Adding ws start at sum i → length ws ≤ i → sum ≡ entry_start ws start at
add_end {ws} {start} {at} {sum} {i} g h = g.sums ∙ ap (λ (l : List ℕ). entry_start l start at) (take_all i ws h)

-- ---- A span

pub span_fits : (long at end : ℕ) → end ≤ long → suc (end - at) ≡ span_of long at end
span_fits long at end h = rw (le-leb end long h)

pub span_empty : (long at end : ℕ) → end ≤ long → end ≤ at → 1 ≡ span_of long at end
span_empty long at end h k = let e : 1 ≡ suc (end - at) = omega arith in e ∙ span_fits long at end h

pub span_over : (long at end : ℕ) → long < end → 1 ≡ span_of long at end
span_over long at end h = rw (lt-leb end long h)

-- ---- What a store leaves as it was

pub around_set : (spans : List ℕ) (base i w : ℕ) → Around spans base (set spans (base + i) w)
around_set spans base i w = record {
  sized = length-set spans (base + i) w;
  same = λ j h. get_or-set_other spans (base + i) j w 0 (λ e. omega arith);
}

-- ---- An entry in its place

pub turns_stay : {text spans : List ℕ} {base group low taken start at end : ℕ} → low ≡ taken → group ≡ low
    → Turns text spans base group low taken start at end text
turns_stay e k = record { stays = λ _ _. refl; moves = λ out. absurd (out e k) }

pub turns_move : {text text' spans : List ℕ} {base group low taken start at end off : ℕ} → (low ≡ taken → group ≡ low → ⊥)
    → off ≡ entry_start (spans_at spans base group) start at → Moves text off at end text'
    → Turns text spans base group low taken start at end text'
turns_move out e m = record { stays = λ q k. absurd (out q k); moves = λ _. rw e at m }

pub puts_low : {text text' spans : List ℕ} {base group low taken start at end own : ℕ} → Turns text spans base group low taken start at end text'
    → own ≡ span_of (length text) at end → group ≡ low → Puts text spans base group low taken start at end (low + 1) text' (set spans (base + group) own)
puts_low {spans = spans} {base = base} {group = group} {low = low} {own = own} t e k = record {
  turns = t;
  marked = ap (set spans (base + group)) e;
  lowest = rw (eq-eqb group low k) (add-one low);
  around = around_set spans base group own;
}

pub puts_else : {text text' spans : List ℕ} {base group low taken start at end own : ℕ} → Turns text spans base group low taken start at end text'
    → own ≡ span_of (length text) at end → (group ≡ low → ⊥) → Puts text spans base group low taken start at end low text' (set spans (base + group) own)
puts_else {spans = spans} {base = base} {group = group} {low = low} {own = own} t e k = record {
  turns = t;
  marked = ap (set spans (base + group)) e;
  lowest = rw (ne_eqb group low k);
  around = around_set spans base group own;
}

-- ---- All become 0

pub record Clearing (spans : List ℕ) (base groups : ℕ) (spans' : List ℕ) (i : ℕ) : Type 0 where
  pub room : base + groups ≤ length spans
  pub within : i ≤ groups
  pub clear : spans' ≡ paste spans base (replicate groups 0) i

pub clear_begin : {spans : List ℕ} {base groups : ℕ} → base + groups ≤ length spans → Clearing spans base groups spans 0
clear_begin {spans} {base} {groups} room = record { room = room; within = omega arith; clear = paste-zero spans base (replicate groups 0) }

module _ {spans spans' : List ℕ} {base groups i : ℕ} (g : Clearing spans base groups spans' i) where
  pub clear_long : length spans' ≡ length spans
  clear_long =
      let n = length-replicate {A = ℕ} groups 0 in
      ap length g.clear ∙ length-paste spans base (replicate groups 0) i (omega (arith, g.within, g.room)) (omega (arith, g.within))

  pub clear_again : i < groups → Clearing spans base groups (set spans' (base + i) 0) (i + 1)
  clear_again h =
      let n = length-replicate {A = ℕ} groups 0 in
      let e = paste-suc spans base (replicate groups 0) i 0 (omega (arith, g.room)) (omega arith) in
      record {
        room = g.room;
        within = omega arith;
        clear = rw (g.clear, add-one) (rw (get_or-replicate {A = ℕ} groups i 0 0 h) at e);
      }

  pub clear_end : groups ≤ i → Clears spans base groups spans'
  clear_end h =
      let k : i ≡ groups = omega (arith, g.within) in
      let z = replicate {A = ℕ} groups 0 in
      let t : take i z ≡ z = take_all i z (rw (length-replicate {A = ℕ} groups 0) h) in
      let e : spans' ≡ take base spans ++ (z ++ drop (base + groups) spans) =
      g.clear ∙ rw (t, append_assoc (take base spans) z (drop (base + i) spans), k) in
      record {
        exact = e;
        around = record {
          sized = clear_long;
          same = λ j q.
              ap (λ (l : List ℕ). get_or l j 0) e
              ∙ get_or-append (take base spans) _ 0 j (omega (arith, length-take base spans, g.room))
              ∙ get_or-take base spans j 0 q;
        };
      }

-- ---- The words after a call

-- After that all are 0.
pub clears_words : {spans spans' : List ℕ} {base groups : ℕ} → base + groups ≤ length spans → Clears spans base groups spans'
    → spans_at spans' base groups ≡ replicate groups 0
clears_words {spans} {spans'} {base} {groups} room c =
    let z = replicate {A = ℕ} groups 0 in
    let l : length (take base spans) ≡ base = length-take-le base spans (omega arith) in
    ap (λ (l : List ℕ). spans_at l base groups) c.exact
    ∙ ap (take groups) (drop_at (take base spans) (z ++ drop (base + groups) spans) base l)
    ∙ take_at z (drop (base + groups) spans) groups (length-replicate groups 0)

-- What changes nothing up to their end leaves them.
pub words_same : (spans spans' : List ℕ) (base groups : ℕ) → base + groups ≤ length spans → length spans' ≡ length spans
    → ((j : ℕ) → j < base + groups → get_or spans' j 0 ≡ get_or spans j 0) → spans_at spans' base groups ≡ spans_at spans base groups
words_same spans spans' base groups room l same =
    let n = spans_length spans base groups room in
    let room' : base + groups ≤ length spans' = omega arith in
    let n' = spans_length spans' base groups room' in
    ext_get_or 0 (spans_at spans' base groups) (spans_at spans base groups) (n' ∙ sym n) (λ j h.
    let k : j < groups = omega arith in
    spans_word spans' base groups room' j k ∙ same (base + j) (omega arith) ∙ sym (spans_word spans base groups room j k))

-- One of them is put.
pub words_set : (spans : List ℕ) (base groups i w : ℕ) → i < groups
    → spans_at (set spans (base + i) w) base groups ≡ set (spans_at spans base groups) i w
words_set spans base groups i w h = ap (take groups) (drop-set-add base spans i w) ∙ take-set-lt groups (drop base spans) i w h

-- The first ones that are taken stay so, and one more may be.
low_stays : (ws : List ℕ) (low i w : ℕ) → opens (take low ws) ≡ 0 → opens (take low (set ws i (suc w))) ≡ 0
unfolding opens
low_stays [] low i w h = h
low_stays (v ∷ ws) zero i w h = refl
low_stays (zero ∷ ws) (suc low) i w h = absurd (omega arith)
low_stays (suc v ∷ ws) (suc low) zero w h = h
low_stays (suc v ∷ ws) (suc low) (suc i) w h = low_stays ws low i w h

low_rises : (ws : List ℕ) (low w : ℕ) → opens (take low ws) ≡ 0 → opens (take (suc low) (set ws low (suc w))) ≡ 0
unfolding opens
low_rises [] low w h = refl
low_rises (v ∷ ws) zero w h = refl
low_rises (zero ∷ ws) (suc low) w h = absurd (omega arith)
low_rises (suc v ∷ ws) (suc low) w h = low_rises ws low w h

pub low_after : (ws : List ℕ) (low i w : ℕ) → opens (take low ws) ≡ 0 → opens (take (cond (eqb i low) (suc low) low) (set ws i (suc w))) ≡ 0
low_after ws low i w h = go (ℕ_discrete i low)
  where
    go : Dec (i ≡ low) → opens (take (cond (eqb i low) (suc low) low) (set ws i (suc w))) ≡ 0
    go (yes e) = rw (eq-eqb i low e, e) (low_rises ws low w h)
    go (no e) = rw (ne_eqb i low e) (low_stays ws low i w h)

pub low_bound : (i low taken : ℕ) → low ≤ taken → cond (eqb i low) (suc low) low ≤ taken + 1
low_bound i low taken h = go (ℕ_discrete i low)
  where
    go : Dec (i ≡ low) → cond (eqb i low) (suc low) low ≤ taken + 1
    go (yes e) = rw (eq-eqb i low e) (omega arith)
    go (no e) = rw (ne_eqb i low e) (omega arith)

-- Those that are not taken have no entry, and so those behind the first ones have none where only these are taken.
together_open : (ws : List ℕ) → opens ws ≡ length ws → together ws ≡ 0
unfolding opens together
together_open [] h = refl
together_open (zero ∷ ws) h = rw (together_open ws (omega arith)) (omega arith)
together_open (suc w ∷ ws) h = absurd (omega (arith, opens_few ws))

pub together_split : (ws : List ℕ) (i : ℕ) → together ws ≡ together (take i ws) + together (drop i ws)
unfolding together
together_split ws zero = omega arith
together_split [] (suc i) = refl
together_split (w ∷ ws) (suc i) = let h = together_split ws i in omega arith

pub together_low : (ws : List ℕ) (low : ℕ) → low ≤ length ws → opens (take low ws) ≡ 0 → opens ws + low ≡ length ws
    → together ws ≡ together (take low ws)
together_low ws low l h e =
    let r = open_past ws low 0 h l in
    let m = length-drop low ws in
    let o = together_open (drop low ws) (omega (arith, r.1)) in
    omega (arith, together_split ws low)
