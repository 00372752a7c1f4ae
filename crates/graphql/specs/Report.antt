-- A whole run: a request, the sizes of the buffers and the choices in; a report out. "Codes handed back" and "Error records". Read it after
-- Complete.
use Rattle.std.specs.Prelude.{◌≡◌, Bool, false, cond, ◌&&◌, ◌||◌, ℕ, ◌-◌, length, replicate, leb, eqb}
use mathlib.Core.List.{List, [], ◌∷◌, ◌++◌, filter_map}
use Rattle.std.proofs.Math.Option.{Option, none, some}
use Rattle.rows.specs.Layout.{selection_width}
use Rattle.rows.specs.Rows.{rows_of}
use Rattle.rows.specs.Document.{selection_at}
use Rattle.rows.specs.declared.document.Selected.{Selected}
use Rattle.rows.specs.declared.document.Selected.TheVariants as selected
use Rattle.tables.specs.Lawful.{lawful, lawful_buffers, lawful_choices}
use Rattle.codes.specs.declared.outcome.Outcome.TheVariants.{Answered, Unlawful, AsksForSchema, TextTooLong, RecordsTooLong}
use Rattle.codes.specs.declared.report.Reported.{Reported}
use Rattle.codes.specs.Outcome.{code_of}
use Rattle.graphql.specs.Run.{name, index, Path, ErrorRecord, Event, err, given_up, skipped, Log, Choices, Res, stop, failed, done}
use Rattle.graphql.specs.Data.{Data, nulled, print_data}
use Rattle.rows.specs.Names.{'schema, 'type}
use Rattle.graphql.specs.Lookup.{rows_from, any}
use Rattle.graphql.specs.Request.{Request}
use Rattle.graphql.specs.Complete.{execute}

-- ---- The error records of a run

unfoldable pub record_of : Event → Option ErrorRecord
record_of (err r) = some r
record_of (given_up path) = none
record_of (skipped path) = none

-- in the order in which they are written
unfoldable pub records_of : Log → List ErrorRecord
records_of log = filter_map record_of log

-- "two words a segment (0 and name, or 1 and index)"
unfoldable pub segment_words : Path → List ℕ
segment_words [] = []
segment_words (name n ∷ p) = 0 ∷ n ∷ segment_words p
segment_words (index i ∷ p) = 1 ∷ i ∷ segment_words p

-- "Code, place, path length, then two words a segment"
unfoldable pub record_words : ErrorRecord → List ℕ
record_words r = r.code ∷ r.place ∷ length r.path ∷ segment_words r.path

unfoldable pub words_of : List ErrorRecord → List ℕ
words_of [] = []
words_of (r ∷ rs) = record_words r ++ words_of rs

-- ---- How a walk ends

-- refused with a code, or answered with its data and its log
pub data Ended : Type 0 where
  refused_with : ℕ → Ended
  answered_with : Data → Log → Ended

-- "Failure at the root makes the data text `null`."
unfoldable pub ended : Res Data → Ended
ended (stop code log) = refused_with code
ended (failed r log choices) = answered_with nulled log
ended (done d log choices) = answered_with d log

unfoldable pub walk : Request → Choices → Ended
walk Q choices = ended (execute Q choices)

-- ---- The report

-- The code, the data text, the words of the error records and their number. With a code other than 0 there is nothing but the code.
pub record Report : Type 0 where
  pub code : ℕ
  pub text : List ℕ
  pub words : List ℕ
  pub records : ℕ

unfoldable pub refused : ℕ → Report
refused code = record { code = code; text = []; words = []; records = 0 }

-- "then 6, then 7": the final text against its buffer, then the records against theirs
unfoldable pub fitted : (text errors : ℕ) → Ended → Report
fitted text errors (refused_with code) = refused code
fitted text errors (answered_with d log) =
    cond (leb (length (print_data d)) text)
    (cond (leb (length (words_of (records_of log))) errors)
    (record { code = code_of Answered; text = print_data d; words = words_of (records_of log); records = length (records_of log) })
    (refused (code_of RecordsTooLong)))
    (refused (code_of TextTooLong))

-- Code 2: "a selection row is a field named `__schema` or `__type`".
unfoldable pub asks_schema : Selected → Bool
asks_schema (selected.Field f) = eqb f.name 'schema || eqb f.name 'type
asks_schema (selected.Spread n) = false
asks_schema (selected.Inline type set) = false
asks_schema selected.Unknown = false

unfoldable pub introspects : (selections : List ℕ) → Bool
introspects selections = any (λ row. asks_schema (selection_at selections row).what) (rows_from 0 (rows_of selections selection_width))

-- "1 before 2 before the walk; 3, 4, 5 .. by which is reached first; then 6, then 7." For choices of any number.
unfoldable pub report_unbounded : Request → (text errors : ℕ) → Choices → Report
report_unbounded Q text errors choices =
    let walked = fitted text errors (walk Q choices) in
    let allowed = cond (introspects Q.tables.selections) (refused (code_of AsksForSchema)) walked in
    cond (lawful Q.tables && lawful_buffers text errors) allowed (refused (code_of Unlawful))

-- "run in a given order": of choices there may be so many and no more
unfoldable pub report : Request → (text errors : ℕ) → Choices → Report
report Q text errors choices =
    let unbounded = report_unbounded Q text errors choices in
    cond (lawful_choices (length choices)) unbounded (refused (code_of Unlawful))

-- "run in document order": with no choices each set takes its groups as they stand
unfoldable pub report_in_order : Request → (text errors : ℕ) → Report
report_in_order Q text errors = report Q text errors []

-- ---- What is handed back

-- A buffer of this size that holds `out`: "With 0, everything past the counts is zero"; with any other code there are zeros alone.
unfoldable pub filled : (size : ℕ) → List ℕ → List ℕ
filled size out = out ++ replicate (size - length out) 0

-- What both runs promise, where buffers of these sizes were lent: the counts, and every byte and word of the two buffers.
pub record Reports (textSize errorSize : ℕ) (r : Report) (handed : Reported) (text errors : List ℕ) : Type 0 where
  pub code : handed.code ≡ r.code
  pub bytes : handed.bytes ≡ length r.text
  pub words : handed.words ≡ length r.words
  pub records : handed.records ≡ r.records
  pub text_is : text ≡ filled textSize r.text
  pub errors_are : errors ≡ filled errorSize r.words
