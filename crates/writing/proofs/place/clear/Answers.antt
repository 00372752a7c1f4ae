use native.Mathlib.Omega.{arith}
use borrow.Author.Rules.{rules}
use Rattle.writing.proofs.Clearing.{filled}
use Rattle.writing.proofs.place.clear.Goals as goal

pub returns-then-from-buffer : goal.returns-then-from-buffer
returns-then-from-buffer g c =
    filled _ g.T.Element.ZERO (λ f q x h. search rules) c.args.buffer.now _ c.args.from _ _ (omega arith) c.fill_with.ensures.len c.fill_with.ensures.ran.1
