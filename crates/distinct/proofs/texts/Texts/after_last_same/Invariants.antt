-- What is passed on the way back differs from the row; a row that is the same ends it. Assumes nothing.
use Rattle.distinct.specs.Differ.{Cursor}
use Rattle.distinct.specs.Texts.{texts_of, other_text, text_chain}
use Rattle.distinct.proofs.texts.Texts.after_last_same.Given as goal

abbrev pub invariant-loop-cursor : goal.invariant-loop-cursor
invariant-loop-cursor g l =
    Cursor (other_text (texts_of l.self g.row.WIDTH g.row.COLUMN)) (text_chain (texts_of l.self g.row.WIDTH g.row.COLUMN)) l.row l.cursor

abbrev pub decreases-loop-cursor : goal.decreases-loop-cursor
decreases-loop-cursor g l = l.cursor
