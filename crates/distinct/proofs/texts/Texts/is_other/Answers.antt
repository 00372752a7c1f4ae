-- A text is the same as itself. Assumes nothing.
use mathlib.Core.Path.{◌≡◌}
use borrow.Author.Rules.{rules}
use Rattle.distinct.proofs.HashLaws.{same_self}
use Rattle.distinct.proofs.texts.Texts.is_other.Goals as goal

pub returns-else-ne : goal.returns-else-ne
returns-else-ne g c =
    let e : c.text_at-a.result ≡ c.text_at-b.result = search rules in
    rw (← c.self.view_is, ← c.text_at-a.ensures, ← c.text_at-b.ensures, e, c.if-ne.false, same_self)
