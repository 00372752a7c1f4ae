-- Plain bytes are the string as it stands. Assumes nothing.
use mathlib.Core.Path.{sym, ◌∙◌}
use Rattle.writing.proofs.WritesLaws.{same}
use Rattle.tokens.proofs.EscapeLaws.{escaped_all_plain}
use Rattle.tokens.proofs.json.put_block_escaped.Goals as goal

pub returns-then-text-at-ge16 : goal.returns-then-text-at-ge16
returns-then-text-at-ge16 c = same (sym (escaped_all_plain _ (sym c.are_plain.ensures ∙ c.if-are_plain.true))) c.put_fitting.ensures
