-- A byte stands for itself, or has a two-character escape, or is a control character that has none. Assumes nothing.
use mathlib.Core.Path.{sym, ◌∙◌}
use Rattle.writing.proofs.WritesLaws.{cons, same}
use Rattle.tokens.proofs.EscapeLaws.{escaped_plain, escaped_letter, escaped_control}
use Rattle.tokens.proofs.json.put_escaped.Goals as goal

pub returns-then-is_plain : goal.returns-then-is_plain
returns-then-is_plain c = same (sym (escaped_plain _ (sym c.is_plain.ensures ∙ c.if-is_plain.true))) c.put.ensures

pub returns-in-Some : goal.returns-in-Some
returns-in-Some c = same (sym (escaped_letter _ (sym c.escape_letter.ensures ∙ c.in-Some.is))) (cons c.put-next.ensures c.put-in-Some.ensures)

pub returns-in-None : goal.returns-in-None
returns-in-None c = same (sym (escaped_control _ (sym c.is_plain.ensures ∙ c.if-is_plain.false) (sym c.escape_letter.ensures ∙ c.in-None.is)))
    c.put_code_point_escape.ensures
