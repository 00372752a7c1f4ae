-- Demand 3: the order in which a selection set takes its fields does not show. Three statements on runs of one request with any choices: (a) the
-- data text, (b) the error records, (c) the nulls of the data; and how the data and the log of a run stand in its report. proofs/Demand3
-- proves them. Read it after Report; of the files before, Run, Data and Report are enough.
use Rattle.std.specs.Prelude.{◌≡◌, ℕ, suc, length}
use mathlib.Core.List.{List, [], ◌∷◌, ◌++◌, Perm, Mem}
use Rattle.rows.specs.Names.{name_text}
use Rattle.graphql.specs.Run.{name, index, Path, ErrorRecord, given_up, skipped, Log, Choices}
use Rattle.graphql.specs.Data.{Data, nulled, list, object, Entries, entry, Fields, field, print_data}
use Rattle.graphql.specs.Request.{Request}
use Rattle.graphql.specs.Report.{records_of, words_of, answered_with, walk, Report, report, report_unbounded}

-- ---- The log of a run

-- no selection set is given up to a null
pub record NoneGivenUp (log : Log) : Type 0 where
  pub none_at : (path : Path) → Mem (given_up path) log → ⊥

-- no item of a list is skipped
pub record NoneSkipped (log : Log) : Type 0 where
  pub none_at : (path : Path) → Mem (skipped path) log → ⊥

-- ---- The data of a run, and its nulls

-- A spot in the data, as a reader of its text finds it: under keys and at positions, from the root.
pub data Step : Type 0 where
  under : List ℕ → Step
  position : ℕ → Step

abbrev pub Spot : Type 0
Spot = List Step

-- counted from `n`, the entry `i` is `d`
pub data EntryAt : (n : ℕ) → Entries → (i : ℕ) → (d : Data) → Type 0 where
  this : {n : ℕ} {d : Data} {es : Entries} → EntryAt n (entry d es) n d
  later : {n i : ℕ} {d e : Data} {es : Entries} → EntryAt (suc n) es i e → EntryAt n (entry d es) i e

-- a field has this key and is `d`
pub data FieldAt : Fields → (key : List ℕ) → (d : Data) → Type 0 where
  this : {key : List ℕ} {d : Data} {fs : Fields} → FieldAt (field key d fs) key d
  later : {key key' : List ℕ} {d e : Data} {fs : Fields} → FieldAt fs key' e → FieldAt (field key d fs) key' e

-- `NullAt tree p`: a null that no resolver answered stands at the spot `p` of the tree. It took the place of something that failed.
pub data NullAt : (tree : Data) → Spot → Type 0 where
  itself : NullAt nulled []
  in_list : {es : Entries} {i : ℕ} {d : Data} {p : Spot} → EntryAt 0 es i d → NullAt d p → NullAt (list es) (position i ∷ p)
  in_object : {fs : Fields} {key : List ℕ} {d : Data} {p : Spot} → FieldAt fs key d → NullAt d p → NullAt (object fs) (under key ∷ p)

-- The spot that an error record's path names. Its indices count the items that the resolver gave, and a text's positions those that are
-- left: they are the same where none is skipped.
unfoldable pub spot_of_path : Request → Path → Spot
spot_of_path Q [] = []
spot_of_path Q (name n ∷ p) = under (name_text Q.tables.pool Q.tables.names n) ∷ spot_of_path Q p
spot_of_path Q (index i ∷ p) = position i ∷ spot_of_path Q p

-- an error record at a spot or below it
pub record Explained (Q : Request) (spot : Spot) (log : Log) : Type 0 where
  pub by : ErrorRecord
  pub below : Spot
  pub written : Mem by (records_of log)
  pub prefix : spot_of_path Q by.path ≡ spot ++ below

-- ---- The statements

-- (a) If both runs answer 0, their data texts are equal.
abbrev pub OrderHidden : Type 0
OrderHidden = (Q : Request) (text errors text' errors' : ℕ) (c c' : Choices)
    → (report_unbounded Q text errors c).code ≡ 0 → (report_unbounded Q text' errors' c').code ≡ 0
    → (report_unbounded Q text errors c).text ≡ (report_unbounded Q text' errors' c').text

-- (b) If moreover in neither run a selection set is given up to a null, their error records are the same with the same repeats.
abbrev pub RecordsKept : Type 0
RecordsKept = (Q : Request) (c c' : Choices) (tree tree' : Data) (log log' : Log)
    → walk Q c ≡ answered_with tree log → walk Q c' ≡ answered_with tree' log'
    → NoneGivenUp log → NoneGivenUp log' → Perm (records_of log) (records_of log')

-- It is enough to look at one of the runs: if no selection set is given up in it, none is in the other.
abbrev pub NoneInEither : Type 0
NoneInEither = (Q : Request) (c c' : Choices) (tree tree' : Data) (log log' : Log)
    → walk Q c ≡ answered_with tree log → walk Q c' ≡ answered_with tree' log'
    → NoneGivenUp log → NoneGivenUp log'

-- (c) If no list item is skipped in a run, every null that no resolver answered has in that run an error record at its spot or below.
abbrev pub NullsExplained : Type 0
NullsExplained = (Q : Request) (c : Choices) (tree : Data) (log : Log) (spot : Spot)
    → walk Q c ≡ answered_with tree log → NoneSkipped log → NullAt tree spot → Explained Q spot log

-- What a run reports with code 0 it reports without the rule on the number of choices too, so that (a) speaks of it.
abbrev pub ReportsUnbounded : Type 0
ReportsUnbounded = (Q : Request) (text errors : ℕ) (c : Choices) → (report Q text errors c).code ≡ 0 → report Q text errors c ≡ report_unbounded Q text errors c

-- A report with code 0 shows the data of the run as its text, and the run's error records, one after the other, as its words.
pub record Shown (Q : Request) (c : Choices) (r : Report) : Type 0 where
  pub tree : Data
  pub log : Log
  pub walked : walk Q c ≡ answered_with tree log
  pub text_is : r.text ≡ print_data tree
  pub words_are : r.words ≡ words_of (records_of log)
  pub count_is : r.records ≡ length (records_of log)

abbrev pub ReportsShown : Type 0
ReportsShown = (Q : Request) (text errors : ℕ) (c : Choices) → (report_unbounded Q text errors c).code ≡ 0 → Shown Q c (report_unbounded Q text errors c)
