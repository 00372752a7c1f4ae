-- The row goes to the head of its chain; the way back from it, through its chain, gives its note. Assumes nothing.
use Prim.Native.Nat.{◌%◌}
use native.Mathlib.Omega.{arith}
use lib.ListN.{length-set}
use Rattle.distinct.proofs.Differ.{since_low}
use Rattle.distinct.proofs.Kept.{kept_cursor, kept_hashed, kept_one}
use borrow.Author.Rules.{rules}
use Rattle.distinct.proofs.texts.Texts.note_row.Goals as goal

pub bounds-heads-chain : goal.bounds-heads-chain
bounds-heads-chain g c = omega (arith, c.requires.kept.headed.sized)

pub bounds-since-row : goal.bounds-since-row
bounds-since-row g c = omega (arith, c.requires.kept.since_sized)

pub overflow_cast-from : goal.overflow_cast-from
overflow_cast-from g c = omega (arith, c.type_inv.since c.args.row)

pub bounds-hashes-row : goal.bounds-hashes-row
bounds-hashes-row g c = omega (arith, c.requires.kept.hashes_sized)

pub overflow_cast-head : goal.overflow_cast-head
overflow_cast-head g c = omega (arith, c.type_inv.heads (c.hash-hash.result % 2048))

pub after_last_same-after-requires : goal.after_last_same-after-requires
after_last_same-after-requires g c =
    (search rules, ((search rules, simp length-set (omega (arith, c.requires.kept.hashes_sized)), search rules, since_low _ _ _ c.requires.kept.told), (kept_hashed _ _ _ _ _ _ c.requires.kept _ c.hash-hash.ensures (omega arith), (c.requires.kept.linked, kept_cursor _ _ _ _ _ _ c.requires.kept _ c.hash-hash.ensures))))

pub bounds-heads-chain-2 : goal.bounds-heads-chain-2
bounds-heads-chain-2 g c = omega (arith, c.requires.kept.headed.sized)

pub overflow_cast-since : goal.overflow_cast-since
overflow_cast-since g c = omega (arith, c.after_last_same-after.ensures.high)

pub bounds-since-row-2 : goal.bounds-since-row-2
bounds-since-row-2 g c = omega (arith, c.requires.kept.since_sized)

pub returns : goal.returns
returns g c = kept_one _ _ _ _ _ _ c.requires.kept _ c.hash-hash.ensures c.after_last_same-after.result (omega arith) c.after_last_same-after.ensures
