-- What both entries' contracts say to a caller, in terms of the counts handed back and the two buffers: that they leave nothing open, and demand 3.
-- proofs/Entries proves it. Read it after Report and Demand3 of graphql; of the walk no more is said than that it ends with data and a log.
use Rattle.std.specs.Prelude.{◌≡◌, ℕ, length, take}
use mathlib.Core.List.{List, [], Perm}
use Rattle.codes.specs.declared.report.Reported.{Reported}
use Rattle.graphql.specs.Run.{Log, Choices}
use Rattle.graphql.specs.Data.{Data, print_data}
use Rattle.graphql.specs.Request.{Request}
use Rattle.graphql.specs.Report.{records_of, words_of, answered_with, walk, report, report_in_order, Reports}
use Rattle.graphql.specs.Determined.{Same}
use Rattle.graphql.specs.Demand3.{NoneGivenUp, NoneSkipped, Spot, NullAt, Explained}

-- ---- What `run` and `run_ordered` ensure, where buffers of these sizes were lent

abbrev pub Ran : Request → (textSize errorSize : ℕ) → Reported → (text errors : List ℕ) → Type 0
Ran Q textSize errorSize handed text errors = Reports textSize errorSize (report_in_order Q textSize errorSize) handed text errors

abbrev pub RanOrdered : Request → Choices → (textSize errorSize : ℕ) → Reported → (text errors : List ℕ) → Type 0
RanOrdered Q choices textSize errorSize handed text errors = Reports textSize errorSize (report Q textSize errorSize choices) handed text errors

-- A run in document order is one in a given order with no choices, so that whatever is said of the second holds for both.
abbrev pub RanInOrder : Type 0
RanInOrder = (Q : Request) (t e : ℕ) (handed : Reported) (text errors : List ℕ) → Ran Q t e handed text errors → RanOrdered Q [] t e handed text errors

-- ---- Nothing is left open: two results that a contract allows are equal

abbrev pub EntryDetermined : Type 0
EntryDetermined = (Q : Request) (t e : ℕ) (handed handed' : Reported) (text text' errors errors' : List ℕ)
    → Ran Q t e handed text errors → Ran Q t e handed' text' errors' → Same handed handed' text text' errors errors'

abbrev pub OrderedEntryDetermined : Type 0
OrderedEntryDetermined = (Q : Request) (choices : Choices) (t e : ℕ) (handed handed' : Reported) (text text' errors errors' : List ℕ)
    → RanOrdered Q choices t e handed text errors → RanOrdered Q choices t e handed' text' errors' → Same handed handed' text text' errors errors'

-- ---- What stands in the buffers of a run that answered 0

-- The text is that of some data, the words are those of a log's records; the walk ended with both.
pub record Answered (Q : Request) (choices : Choices) (handed : Reported) (text errors : List ℕ) : Type 0 where
  pub tree : Data
  pub log : Log
  pub walked : walk Q choices ≡ answered_with tree log
  pub byte_count : handed.bytes ≡ length (print_data tree)
  pub text_is : take handed.bytes text ≡ print_data tree
  pub word_count : handed.words ≡ length (words_of (records_of log))
  pub words_are : take handed.words errors ≡ words_of (records_of log)
  pub record_count : handed.records ≡ length (records_of log)

abbrev pub EntryAnswers : Type 0
EntryAnswers = (Q : Request) (choices : Choices) (t e : ℕ) (handed : Reported) (text errors : List ℕ)
    → RanOrdered Q choices t e handed text errors → handed.code ≡ 0 → Answered Q choices handed text errors

-- ---- Demand 3, for two runs of one request with whatever choices and buffers

-- (a) If both answer 0, their data texts are equal.
pub record SameText (handed handed' : Reported) (text text' : List ℕ) : Type 0 where
  pub bytes_same : handed.bytes ≡ handed'.bytes
  pub text_same : take handed.bytes text ≡ take handed'.bytes text'

abbrev pub TextKept : Type 0
TextKept = (Q : Request) (c c' : Choices) (t e t' e' : ℕ) (handed handed' : Reported) (text text' errors errors' : List ℕ)
    → RanOrdered Q c t e handed text errors → RanOrdered Q c' t' e' handed' text' errors' → handed.code ≡ 0 → handed'.code ≡ 0
    → SameText handed handed' text text'

-- (b) If in one of them no selection set is given up to a null, their error records are the same with the same repeats: there are as many, in as many
-- words, and those of the one are those of the other in another order.
pub record SameRecords (handed handed' : Reported) (log log' : Log) : Type 0 where
  pub records_same : handed.records ≡ handed'.records
  pub words_same : handed.words ≡ handed'.words
  pub rearranged : Perm (records_of log) (records_of log')

abbrev pub EntryRecordsKept : Type 0
EntryRecordsKept = (Q : Request) (c c' : Choices) (handed handed' : Reported) (text text' errors errors' : List ℕ)
    (a : Answered Q c handed text errors) (a' : Answered Q c' handed' text' errors')
    → NoneGivenUp a.log → SameRecords handed handed' a.log a'.log

-- (c) If no list item is skipped in a run, every null of its data that no resolver answered has an error record at its spot or below.
abbrev pub EntryNullsExplained : Type 0
EntryNullsExplained = (Q : Request) (c : Choices) (handed : Reported) (text errors : List ℕ) (a : Answered Q c handed text errors) (spot : Spot)
    → NoneSkipped a.log → NullAt a.tree spot → Explained Q spot a.log
