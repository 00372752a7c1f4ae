-- The next note follows from the one before and from the last row that has the word. Assumes nothing.
use mathlib.Core.Path.{◌≡◌, refl, sym, ◌∙◌}
use Prim.Native.Nat.{◌+◌, ◌<◌}
use native.Mathlib.Omega.{arith}
use lib.ListN.{length, length-set}
use lib.Seq.{get_or-set_same}
use Rattle.distinct.proofs.Differ.{after_from, since_none, since_low, since_one}
use Rattle.distinct.proofs.Chains.{lasts_none, lasts_one, lasts_found}
use borrow.Author.Rules.{rules}
use Rattle.distinct.proofs.columns.note_since.Goals as goal

pub loop-row-init : goal.loop-row-init
loop-row-init c = let z = get_or-set_same c.args.since.now 0 0 0 c.requires.3 in
    (search rules, refl, lasts_none _ 512, since_none _ _ z, sym z)

pub shape_of-since-then-word-ge512 : goal.shape_of-since-then-word-ge512
shape_of-since-then-word-ge512 c = c.loop-row.invariant.1 ∙ length-set c.args.since.now 0 0

pub returns-then-word-ge512 : goal.returns-then-word-ge512
returns-then-word-ge512 c = (omega (arith, simp length-set at c.loop-row.invariant.1), c.loop-row.invariant.3)

pub bounds-since-row : goal.bounds-since-row
bounds-since-row c = omega (arith, simp length-set at c.loop-row.invariant.1)

pub loop-row-preserved : goal.loop-row-preserved
loop-row-preserved c = let room : c.loop-row.row + 1 < length c.loop-row.since = omega (arith, simp length-set at c.loop-row.invariant.1) in (
  search rules,
  length-set c.loop-row.since (c.loop-row.row + 1) c.max-from.result ∙ c.loop-row.invariant.1,
  lasts_one _ _ _ _ _ c.loop-row.invariant.2 c.cell-word.ensures c.if-word-ge512.false,
  since_one _ _ _ c.loop-row.invariant.3 c.max-from.result
      (rw (c.max-from.ensures, c.loop-row.invariant.4)
      (after_from _ _ _ _ (lasts_found _ _ _ _ _ c.loop-row.invariant.2 c.cell-word.ensures c.if-word-ge512.false) (since_low _ _ _ c.loop-row.invariant.3)))
      room,
  sym (get_or-set_same c.loop-row.since (c.loop-row.row + 1) c.max-from.result 0 room),
)

pub shape_of-since : goal.shape_of-since
shape_of-since c = c.loop-row.invariant.1 ∙ length-set c.args.since.now 0 0

pub returns : goal.returns
returns c = let e : c.loop-row.row ≡ c.rows_to_note-rows.result = omega arith in
    (omega (arith, simp length-set at c.loop-row.invariant.1), rw e at c.loop-row.invariant.3)
