-- Each contract is made of equations whose right sides the input determines. Assumes nothing.
use mathlib.Core.Path.{sym, ◌∙◌}
use mathlib.Core.List.{List}
use Prim.Native.Nat.{ℕ}
use Rattle.codes.specs.declared.report.Reported.{Reported}
use Rattle.graphql.specs.Report.{Report, Reports}
use Rattle.graphql.specs.Determined.{TableCheckDetermined, Same, RunDetermined, OrderedRunDetermined}

pub table_check_determined : TableCheckDetermined
table_check_determined T code code' e e' = e ∙ sym e'

reports_same : {textSize errorSize : ℕ} {r : Report} {handed handed' : Reported} {text text' errors errors' : List ℕ}
    → Reports textSize errorSize r handed text errors → Reports textSize errorSize r handed' text' errors' → Same handed handed' text text' errors errors'
reports_same h k = record {
  handed_same = λ i. record {
    code = (h.code ∙ sym k.code) i;
    bytes = (h.bytes ∙ sym k.bytes) i;
    words = (h.words ∙ sym k.words) i;
    records = (h.records ∙ sym k.records) i;
  };
  text_same = h.text_is ∙ sym k.text_is;
  errors_same = h.errors_are ∙ sym k.errors_are;
}

pub run_determined : RunDetermined
run_determined Q textSize errorSize handed handed' text text' errors errors' = reports_same

pub ordered_run_determined : OrderedRunDetermined
ordered_run_determined Q textSize errorSize choices handed handed' text text' errors errors' = reports_same
