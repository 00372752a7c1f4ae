-- The spans of a set's groups, a word for each: 0 while the group is not taken, then one more than the length of its entry.
use Rattle.std.specs.Prelude.{◌≡◌, cond, List, [], ◌∷◌, ◌++◌, ℕ, zero, suc, ◌+◌, ◌-◌, ◌%◌, ◌≤◌, ◌<◌, min, length, take, drop, get_or, set, replicate, leb, ltb, eqb}
use Rattle.writing.specs.Wrote.{Moves}

-- those of a set's first groups
abbrev pub spans_at : (spans : List ℕ) (base groups : ℕ) → List ℕ
spans_at spans base groups = take groups (drop base spans)

-- the group that is not taken and has j such before it
unfoldable pub open_at : List ℕ → ℕ → ℕ
open_at [] j = 0
open_at (zero ∷ ws) zero = 0
open_at (zero ∷ ws) (suc j) = suc (open_at ws j)
open_at (suc w ∷ ws) j = suc (open_at ws j)

-- how many are not taken
unfoldable pub opens : List ℕ → ℕ
opens [] = 0
opens (zero ∷ ws) = suc (opens ws)
opens (suc w ∷ ws) = opens ws

-- how long the entries are together
unfoldable pub together : List ℕ → ℕ
together [] = 0
together (w ∷ ws) = w - 1 + together ws

-- ---- Before the first turn

-- nothing else than the spans of this set, and of those below it, is another; `base` is where they begin
pub record Around (spans : List ℕ) (base : ℕ) (spans' : List ℕ) : Type 0 where
  pub sized : length spans' ≡ length spans
  pub same : (j : ℕ) → j < base → get_or spans' j 0 ≡ get_or spans j 0

-- no group is taken
pub record Clears (spans : List ℕ) (base groups : ℕ) (spans' : List ℕ) : Type 0 where
  pub exact : spans' ≡ take base spans ++ (replicate groups 0 ++ drop (base + groups) spans)
  pub around : Around spans base spans'

-- ---- The next group

-- What is known where a group is to be picked: so many are taken, among them the first `low`.
pub record Tally (spans : List ℕ) (base groups low taken : ℕ) : Type 0 where
  pub room : base + groups ≤ length spans
  pub left : taken < groups
  pub below : low ≤ taken
  pub lowest : opens (spans_at spans base low) ≡ 0
  pub counted : opens (spans_at spans base groups) + taken ≡ groups

-- a choice, modulo how many groups are left; 0 where there is no choice left
abbrev pub chosen : (choices : List ℕ) (choice left : ℕ) → ℕ
chosen choices choice left = get_or choices choice 0 % left

abbrev pub next_group : (spans choices : List ℕ) (base groups taken choice : ℕ) → ℕ
next_group spans choices base groups taken choice = open_at (spans_at spans base groups) (chosen choices choice (groups - taken))

-- the number of the choice after it
abbrev pub past_choice : (choices : List ℕ) (choice : ℕ) → ℕ
past_choice choices choice = cond (ltb choice (length choices)) (suc choice) choice

-- ---- An entry goes to its place

-- One more than the length of an entry that was written from `at` to `end`; of one that does not fit only that it is there.
abbrev pub span_of : (long at end : ℕ) → ℕ
span_of long at end = cond (leb end long) (suc (end - at)) 1

-- behind the entries of the groups before it, but no further than where it is
abbrev pub entry_start : List ℕ → (start at : ℕ) → ℕ
entry_start ws start at = min (start + together ws) at

-- It is in its place where the groups taken are those before it; else it is turned there.
pub record Turns (text spans : List ℕ) (base group low taken start at end : ℕ) (text' : List ℕ) : Type 0 where
  pub stays : low ≡ taken → group ≡ low → text' ≡ text
  pub moves : (low ≡ taken → group ≡ low → ⊥) → Moves text (entry_start (spans_at spans base group) start at) at end text'

-- that, its span, and how many groups are then known to be taken from the first on
pub record Puts (text spans : List ℕ) (base group low taken start at end r : ℕ) (text' spans' : List ℕ) : Type 0 where
  pub turns : Turns text spans base group low taken start at end text'
  pub marked : spans' ≡ set spans (base + group) (span_of (length text) at end)
  pub lowest : r ≡ cond (eqb group low) (suc low) low
  pub around : Around spans base spans'
