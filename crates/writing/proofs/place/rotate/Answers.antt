-- Of two runs side by side, reversing each and then both gives the second before the first. Assumes nothing.
use Rattle.std.proofs.Common.{◌≤◌, arith}
use Rattle.writing.proofs.Rotation.{part_reversed, rotated_by_reversals}
use Rattle.writing.proofs.place.rotate.Goals as goal

pub returns : goal.returns
returns c =
    let a = c.args.a in
    let b = c.args.b in
    let e = c.args.e in
    let ab : a ≤ b = omega arith in
    let be : b ≤ e = omega arith in
    let ae : a ≤ e = omega arith in
    rotated_by_reversals c.args.text.now a b e c.requires
    (part_reversed _ _ a b ab c.reverse.ensures.after) (part_reversed _ _ b e be c.reverse-2.ensures.after) (part_reversed _ _ a e ae c.reverse-3.ensures.after)
