-- Only an object has names. Assumes nothing.
use mathlib.Core.Path.{◌≡◌, ◌∙◌}
use Rattle.rows.specs.Layout.{answer_width}
use Rattle.rows.specs.Rows.{cell}
use Rattle.rows.specs.Answers.{answer_at}
use Rattle.tables.proofs.Parts.{no_names}
use Rattle.tables.proofs.data.names_in_answer_differ.Goals as goal

pub returns-then-word-ne-OBJECT_ANSWER : goal.returns-then-word-ne-OBJECT_ANSWER
unfolding answer_at
returns-then-word-ne-OBJECT_ANSWER c = let n : cell c.args.names.now answer_width c.args.row 0 ≡ 4 → ⊥ = λ e. c.if-word-ne-OBJECT_ANSWER.true (c.word.ensures ∙ (rw c.table-answers.ensures e)) in
    no_names _ _ _ _ _ n

pub returns : goal.returns
unfolding answer_at
returns c = rw (← c.table-answers.ensures, ← c.word.ensures, c.if-word-ne-OBJECT_ANSWER.false, ← c.word-2.ensures, ← c.word-3.ensures) (rw c.table-answers.ensures c.is_distinct.ensures)
