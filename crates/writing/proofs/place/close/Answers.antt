-- The first comma makes room for the left bracket; a text that does not fit is past the end with its brackets too. Assumes nothing.
use mathlib.Core.Path.{◌≡◌, sym, ◌∙◌}
use lib.ListN.{set}
use lib.Seq.{set_out}
use Rattle.writing.proofs.Closing.{closes_none, closes_some}
use Rattle.writing.proofs.place.close.Goals as goal
use Rattle.writing.proofs.place.close.Goals.{then-start-text, else-start-text}

pub returns-then-at-start : goal.returns-then-at-start
returns-then-at-start c = closes_none c.if-at-start.true c.put-next.ensures c.put.ensures

pub returns : goal.returns
returns c =
    -- the text once the left bracket is written, if there is room for it
    let marked : c.if-start-text.text ≡ set c.args.text.now c.args.start c.args.left =
    elim c.if-start-text.branch [ then-start-text w ↦ w.text-is | else-start-text w ↦ w.text-is ∙ sym (set_out _ _ _ w.if-start-text.false) ] in
    closes_some c.args.text.now c.args.left c.if-at-start.false (rw marked at c.put-2.ensures)
