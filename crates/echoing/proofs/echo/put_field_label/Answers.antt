-- A comma, the name as a string and a colon are one text. Assumes nothing.
use borrow.Author.Rules.{rules}
use Rattle.echoing.proofs.Leaves.{field_labelled}
use Rattle.echoing.proofs.echo.put_field_label.Goals as goal

pub returns : goal.returns
returns c = search (field_labelled, rules)
