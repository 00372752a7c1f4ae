-- "Prove that two results allowed by it are equal": what the contracts of the public entries leave open, namely nothing. Of the depth check it is said
-- beside its contract. Read it after Report.
use Rattle.std.specs.Prelude.{◌≡◌, List, ℕ}
use Rattle.tables.specs.Tables.{Tables}
use Rattle.tables.specs.Lawful.{table_code}
use Rattle.codes.specs.declared.report.Reported.{Reported}
use Rattle.graphql.specs.Run.{Choices}
use Rattle.graphql.specs.Request.{Request}
use Rattle.graphql.specs.Report.{report, report_in_order, Reports}

-- the table check: the code
abbrev pub TableCheckDetermined : Type 0
TableCheckDetermined = (T : Tables) (code code' : ℕ) → code ≡ table_code T → code' ≡ table_code T → code ≡ code'

-- what is handed back of a run, and both buffers
pub record Same (handed handed' : Reported) (text text' errors errors' : List ℕ) : Type 0 where
  pub handed_same : handed ≡ handed'
  pub text_same : text ≡ text'
  pub errors_same : errors ≡ errors'

-- a run in document order, and a run in a given order
abbrev pub RunDetermined : Type 0
RunDetermined = (Q : Request) (textSize errorSize : ℕ) (handed handed' : Reported) (text text' errors errors' : List ℕ)
    → Reports textSize errorSize (report_in_order Q textSize errorSize) handed text errors
    → Reports textSize errorSize (report_in_order Q textSize errorSize) handed' text' errors' → Same handed handed' text text' errors errors'

abbrev pub OrderedRunDetermined : Type 0
OrderedRunDetermined = (Q : Request) (textSize errorSize : ℕ) (choices : Choices) (handed handed' : Reported) (text text' errors errors' : List ℕ)
    → Reports textSize errorSize (report Q textSize errorSize choices) handed text errors
    → Reports textSize errorSize (report Q textSize errorSize choices) handed' text' errors' → Same handed handed' text text' errors errors'
