-- Plain bytes are the string as it stands. Assumes nothing.
use mathlib.Core.Path.{sym, ◌∙◌}
use Rattle.tokens.proofs.EscapeLaws.{escaped_all_plain}
use Rattle.tokens.proofs.json.put_few_escaped.Goals as goal

pub returns-then-are_few_plain : goal.returns-then-are_few_plain
returns-then-are_few_plain c = rw (escaped_all_plain _ (sym c.are_few_plain.ensures ∙ c.if-are_few_plain.true)) c.put_all.ensures
