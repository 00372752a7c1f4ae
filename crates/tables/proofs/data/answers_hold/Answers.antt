-- Where no answer has two names to compare, none has two alike. Assumes nothing.
use borrow.Author.Rules.{rules}
use mathlib.Core.Path.{sym}
use Rattle.rows.proofs.Every.{all_at, all_each}
use Rattle.rules.specs.Answers.{answer_row}
use Rattle.tables.specs.ByTable.{plain_answer}
use Rattle.tables.proofs.Parts.{plain_differs}
use Rattle.tables.proofs.data.answers_hold.Goals as goal

pub returns-in-None : goal.returns-in-None
returns-in-None c =
    let seen = c.in-None.ensures (answer_row c.args.names c.args.nodes c.row_count-count.result c.args.answers.now) (plain_answer c.args.answers.now) (λ row b k. search rules) (λ row b k. search rules) in
    rw (← c.row_count-count.ensures, seen)

pub returns-then-plain : goal.returns-then-plain
returns-then-plain c =
    let seen = c.in-Some.ensures (answer_row c.args.names c.args.nodes c.row_count-count.result c.args.answers.now) (plain_answer c.args.answers.now) (λ row b k. search rules) (λ row b k. search rules) in
    rw (← c.row_count-count.ensures, seen.0, c.if-plain.true) (sym (all_each _ _ (λ row l. plain_differs _ row (all_at _ row _ l (seen.1 c.if-plain.true)))))

pub returns-else-plain : goal.returns-else-plain
returns-else-plain c =
    let seen = c.in-Some.ensures (answer_row c.args.names c.args.nodes c.row_count-count.result c.args.answers.now) (plain_answer c.args.answers.now) (λ row b k. search rules) (λ row b k. search rules) in
    rw (← c.row_count-count.ensures, seen.0) (rw (← c.row_count-count.ensures) at c.answer_names_differ.ensures)
