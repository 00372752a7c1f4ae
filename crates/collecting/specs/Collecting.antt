-- What the functions of CollectFields ensure, by its definition: a list of rows and the bits of a number stand for what was collected.
use Rattle.std.specs.Prelude.{◌≡◌, List, [], ◌∷◌, ℕ, ◌+◌, ◌≤◌, ◌<◌, eqb, length, get_or, take}
use Rattle.std.specs.Prelude.{Option, Some, Result, Ok, Err}
use Rattle.rows.specs.Layout.{fragment_width}
use Rattle.rows.specs.Limits.{most_selections, most_fragments}
use Rattle.rows.specs.Rows.{rows_of}
use Rattle.rows.specs.Document.{set_at, field_selection, selection_at}
use Rattle.rows.specs.declared.layout.Range.{Range}
use Rattle.rows.specs.declared.document.Selected.TheVariants.{Field}
use Rattle.codes.specs.declared.outcome.Outcome.{Outcome}
use Rattle.codes.specs.declared.outcome.Outcome.TheVariants.{TooFar, TooManyFields}
use Rattle.codes.specs.Outcome.{code_of, most_collected}
use Rattle.graphql.specs.Run.{Choices, M, stop, done, pure, when}
use Rattle.graphql.specs.Lookup.{any, rows_in, fragment_named}
use Rattle.graphql.specs.Collect.{Group, Collected, grouped, collect_field, dropped, inline_applies, spread, collect_selected, collect_fields, collect_within}
use Rattle.lookup.specs.Found.{Listed}
use Rattle.collecting.specs.Visited.{is_marked}
use Rattle.collecting.specs.declared.collect.Gathered.{Gathered}

-- ---- What the tables give

-- What collecting rests on, and lawful tables give: selections are few, and each fragment has a bit. The list lent has room for 128 fields.
pub record Collectable (types sets fragments list : List ℕ) : Type 0 where
  pub listed : Listed types
  pub within : (set : ℕ) → (set_at sets set).first + (set_at sets set).count ≤ most_selections
  pub few : rows_of fragments fragment_width ≤ most_fragments
  pub room : length list ≡ most_collected

-- the row is a field's
pub record FieldRow (selections : List ℕ) (row : ℕ) : Type 0 where
  pub there : row < most_selections
  pub is : (selection_at selections row).what ≡ Field (field_selection selections row)

-- ---- What was collected

-- what is gathered, or why collecting stops
abbrev pub Collecting : Type 0
Collecting = Result Gathered Outcome

-- The outcomes with which collecting stops, and no others: a 33rd fragment would be open, or a 129th field is collected.
abbrev pub StopsCollecting : Outcome → Type 0
StopsCollecting TooFar = Unit {0}
StopsCollecting TooManyFields = Unit {0}
StopsCollecting o = ⊥

-- the groups, with the fields of these rows put to them in order
unfoldable pub groups_of : (selections : List ℕ) → List Group → List ℕ → List Group
groups_of selections groups [] = groups
groups_of selections groups (row ∷ rows) = groups_of selections (grouped (field_selection selections row).key row groups) rows

module _ (selections fragments : List ℕ) where
  -- The list and what was gathered stand for `c`: the first rows of the list are the fields in order, and the bits say which fragments
  -- were visited.
  pub record Shows (list : List ℕ) (g : Gathered) (c : Collected) : Type 0 where
    pub room : length list ≡ most_collected
    pub few : g.count ≤ most_collected
    pub counted : c.count ≡ g.count
    pub groups : c.groups ≡ groups_of selections [] (take g.count list)
    pub fields : (i : ℕ) → i < g.count → FieldRow selections (get_or list i 0)
    pub marked : (name row : ℕ) → fragment_named fragments name ≡ Some row → any (λ v. eqb v name) c.visited ≡ is_marked row g.visited

  -- it goes on with what the list and `g` stand for; nothing is logged, and no choice is read
  pub record GoesOn (m : M Collected) (g : Gathered) (list : List ℕ) : Type 0 where
    pub collected : Collected
    pub is : (k : Choices) → m k ≡ done collected [] k
    pub shows : Shows list g collected

  abbrev pub Comes : M Collected → Collecting → List ℕ → Type 0
  Comes m (Ok g) list = GoesOn m g list
  Comes m (Err o) list = (k : Choices) → m k ≡ stop (code_of o) []

  -- Whatever was collected before the call, if the list and `g` stand for it, the call comes to what the definition says. What stands in
  -- the list where it stopped is nobody's.
  pub record Collects (m : Collected → M Collected) (list : List ℕ) (g : Gathered) (r : Collecting) (list' : List ℕ) : Type 0 where
    pub kept : length list' ≡ length list
    pub collects : (c : Collected) → Shows list g c → Comes (m c) r list'

-- what a collection that begins with nothing comes to: the groups of a selection set
abbrev pub Groups : (selections : List ℕ) → M (List Group) → Collecting → List ℕ → Type 0
Groups selections m (Ok g) list = (k : Choices) → m k ≡ done (groups_of selections [] (take g.count list)) [] k
Groups selections m (Err o) list = (k : Choices) → m k ≡ stop (code_of o) []

-- ---- What each function comes to

-- one field, whichever the tables are
abbrev pub CollectsField : (row : ℕ) (list : List ℕ) (g : Gathered) (r : Collecting) (list' : List ℕ) → Type 0
CollectsField row list g r list' =
    (selections fragments : List ℕ) → FieldRow selections row
    → Collects selections fragments (collect_field (field_selection selections row).key row) list g r list'

-- with `room` fragments that may still be opened
module _ (types members sets selections fragments nodes variables : List ℕ) (room object : ℕ) where
  abbrev open' : ℕ → ℕ → Collected → M Collected
  open' = λ o s d. collect_within types members sets selections fragments variables nodes room o s d

  abbrev pub set_done : ℕ → Collected → M Collected
  set_done set = collect_within types members sets selections fragments variables nodes room object set

  abbrev pub spread_done : ℕ → Collected → M Collected
  spread_done name = spread types members sets selections fragments variables nodes open' object name

  abbrev pub inline_done : Option ℕ → ℕ → Collected → M Collected
  inline_done condition set c = when (inline_applies types members object condition) (set_done set c) (pure c)

  abbrev pub selection_done : ℕ → Collected → M Collected
  selection_done row c =
      when (dropped variables nodes (selection_at selections row)) (pure c)
      (collect_selected types members sets selections fragments variables nodes open' object row (selection_at selections row).what c)

  abbrev pub rows_done : List ℕ → Collected → M Collected
  rows_done rows = collect_fields types members sets selections fragments variables nodes open' object rows

  abbrev pub CollectsSet : (set : ℕ) (list : List ℕ) (g : Gathered) (r : Collecting) (list' : List ℕ) → Type 0
  CollectsSet set list g r list' = Collects selections fragments (set_done set) list g r list'

  abbrev pub CollectsSpread : (name : ℕ) (list : List ℕ) (g : Gathered) (r : Collecting) (list' : List ℕ) → Type 0
  CollectsSpread name list g r list' = Collects selections fragments (spread_done name) list g r list'

  abbrev pub CollectsInline : (condition : Option ℕ) (set : ℕ) (list : List ℕ) (g : Gathered) (r : Collecting) (list' : List ℕ) → Type 0
  CollectsInline condition set list g r list' = Collects selections fragments (inline_done condition set) list g r list'

  abbrev pub CollectsSelection : (row : ℕ) (list : List ℕ) (g : Gathered) (r : Collecting) (list' : List ℕ) → Type 0
  CollectsSelection row list g r list' = Collects selections fragments (selection_done row) list g r list'

  abbrev pub CollectsRows : (rows : Range) (list : List ℕ) (g : Gathered) (r : Collecting) (list' : List ℕ) → Type 0
  CollectsRows rows list g r list' = Collects selections fragments (rows_done (rows_in rows)) list g r list'
