-- What the functions of the depth check ensure, by the definition of the depth check.
use Rattle.std.specs.Prelude.{◌≡◌, List, [], ℕ, ◌+◌, ◌≤◌, ◌<◌, length, get_or}
use Rattle.std.specs.Prelude.{Option, Some, None, Result, Ok, Err}
use Rattle.rows.specs.Layout.{fragment_width}
use Rattle.rows.specs.Rows.{rows_of}
use Rattle.rows.specs.Document.{set_at, selection_at}
use Rattle.rows.specs.declared.document.FieldSelection.{FieldSelection}
use Rattle.tables.specs.Tables.{Tables}
use Rattle.graphql.specs.Lookup.{fragment_named}
use Rattle.graphql.specs.Depth.{Rises, rise_of, DepthReport, depth_report, child_set, check_field, check_spread, check_selected, check_set}
use Rattle.graphql.specs.Depth as defined
use Rattle.introspection.specs.declared.max_depth.DepthAnswer.{DepthAnswer}
use Rattle.introspection.specs.declared.max_depth.Unmeasured.{Unmeasured}
use Rattle.introspection.specs.declared.max_depth.Unmeasured.TheVariants.{TooManySets, TooDeep}

-- the answer is the report: code, depth and place
pub record Answers (r : DepthAnswer) (report : DepthReport) : Type 0 where
  pub code : r.code ≡ report.code
  pub depth : r.depth ≡ report.depth'
  pub place : r.place ≡ report.place

-- "Prove that two results allowed by it are equal"
abbrev pub DepthCheckDetermined : Type 0
DepthCheckDetermined = (T : Tables) (r r' : DepthAnswer) → Answers r (depth_report T) → Answers r' (depth_report T) → r ≡ r'

-- a depth, or why there is none
abbrev pub Checked : Type 0
Checked = Result ℕ Unmeasured

-- how the code says what the definition says; the rises are said by the marks
abbrev pub said : defined.Checked → Checked
said defined.too_many_sets = Err TooManySets
said (defined.too_deep place) = Err (TooDeep place)
said (defined.depth d rises) = Ok d

abbrev pub meant : Checked → defined.Checked
meant (Err TooManySets) = defined.too_many_sets
meant (Err (TooDeep place)) = defined.too_deep place
meant (Ok d) = defined.depth d []

-- a mark for each row of the fragments: the rise of a fragment that was met
abbrev pub Marks : Type 0
Marks = List (Option ℕ)

-- the marks say what is remembered by name
pub record Marked (fragments : List ℕ) (marks : Marks) (rises : Rises) : Type 0 where
  pub marked : (name row : ℕ) → fragment_named fragments name ≡ Some row → get_or marks row None ≡ rise_of name rises

abbrev pub Remembers : List ℕ → Marks → defined.Checked → Type 0
Remembers fragments marks defined.too_many_sets = Unit {0}
Remembers fragments marks (defined.too_deep place) = Unit {0}
Remembers fragments marks (defined.depth d rises) = Marked fragments marks rises

-- the call came to x
pub record Ends (fragments : List ℕ) (x : defined.Checked) (r : Checked) (marks' : Marks) : Type 0 where
  pub what : r ≡ said x
  pub remembers : Remembers fragments marks' x

-- whatever is remembered at the call, if the marks say so, the call comes to what the definition says
pub record Checks (fragments : List ℕ) (marks : Marks) (x : Rises → defined.Checked) (r : Checked) (marks' : Marks) : Type 0 where
  pub kept : length marks' ≡ length marks
  pub checks : (rises : Rises) → Marked fragments marks rises → Ends fragments (x rises) r marks'

-- what the walk rests on: selections are few, each fragment has a mark, and the depth so far was not refused
pub record Walkable (sets fragments : List ℕ) (marks : Marks) (sofar : ℕ) : Type 0 where
  pub within : (set : ℕ) → (set_at sets set).first + (set_at sets set).count ≤ 2048
  pub few : rows_of fragments fragment_width ≤ 64
  pub marked : length marks ≡ 64
  pub shallow : sofar < 3

-- what each function of the walk comes to, with `room` sets that may still be opened
module _ (sets selections fragments : List ℕ) (marks : Marks) (room : ℕ) where
  abbrev open' : ℕ → ℕ → Rises → defined.Checked
  open' = check_set sets selections fragments room

  abbrev pub ChecksSet : (set sofar : ℕ) → Checked → Marks → Type 0
  ChecksSet set sofar r marks' = Checks fragments marks (open' set sofar) r marks'

  abbrev pub ChecksSelection : (row sofar : ℕ) → Checked → Marks → Type 0
  ChecksSelection row sofar r marks' =
      Checks fragments marks (check_selected sets selections fragments open' sofar (selection_at selections row).place (selection_at selections row).what) r marks'

  abbrev pub ChecksField : (place : ℕ) → FieldSelection → (sofar : ℕ) → Checked → Marks → Type 0
  ChecksField place field sofar r marks' = Checks fragments marks (check_field sets selections fragments open' sofar place field) r marks'

  abbrev pub ChecksChild : FieldSelection → (depth : ℕ) → Checked → Marks → Type 0
  ChecksChild field depth r marks' = Checks fragments marks (child_set sets selections fragments open' depth depth field) r marks'

  abbrev pub ChecksSpread : (place name sofar : ℕ) → Checked → Marks → Type 0
  ChecksSpread place name sofar r marks' = Checks fragments marks (check_spread sets selections fragments open' sofar place name (fragment_named fragments name)) r marks'
