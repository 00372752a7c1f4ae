use Rattle.rows.specs.Answers.{answer_at}
use Rattle.rules.proofs.answers.answer_row.Goals as goal

pub returns : goal.returns
unfolding answer_at
returns c = rw (c.answer_name.ensures, c.answer_is_lawful-lawful.ensures, c.cell-c.ensures, c.cell-b.ensures, c.cell-a.ensures, c.cell-kind.ensures)
