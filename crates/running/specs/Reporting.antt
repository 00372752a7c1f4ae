-- From what the walk left in the two buffers to what is handed back.
use Rattle.std.specs.Prelude.{◌≡◌, List, ℕ, length, take}
use Rattle.writing.specs.Wrote.{Wrote}
use Rattle.codes.specs.declared.report.Reported.{Reported}
use Rattle.graphql.specs.Run.{ErrorRecord, Log, Res}
use Rattle.graphql.specs.Data.{Data, print_data}
use Rattle.graphql.specs.Report.{records_of, words_of, answered_with, ended, fitted, Reports}
use Rattle.walking.specs.Gives.{as_data, Gives}
use Rattle.walking.specs.declared.state.State.{State}
use Rattle.walking.specs.declared.state.Done.{Done}

-- so many records as stand in the words, whatever they are
pub record Counts (errors : List ℕ) (words r : ℕ) : Type 0 where
  pub counts : (rs : List ErrorRecord) → take words errors ≡ words_of rs → r ≡ length rs

-- The text up to `at` and the records up to `errs` are reported, whatever data and log they are of.
pub record ReportsWritten (text errors : List ℕ) (at errs : ℕ) (r : Reported) (text' errors' : List ℕ) : Type 0 where
  pub reports : (before noted : List ℕ) (d : Data) (log : Log) → Wrote before text 0 at (print_data d) → Wrote noted errors 0 errs (words_of (records_of log))
      → Reports (length before) (length noted) (fitted (length before) (length noted) (answered_with d log)) r text' errors'

-- The end of a walk is reported, whatever the walk was.
pub record ReportsEnd (text errors : List ℕ) (d : Done) (r : Reported) (text' errors' : List ℕ) : Type 0 where
  pub reports : (cs before noted : List ℕ) (s : State) (x : Res Data) → s.at ≡ 0 → s.errs ≡ 0 → Gives as_data cs before noted s x d text errors
      → Reports (length before) (length noted) (fitted (length before) (length noted) (ended x)) r text' errors'
