-- Each letter takes a byte of the text at least, and fills one of the pool. Assumes nothing.
use Prim.Native.Nat.{◌≤◌, ◌-◌}
use lib.ListN.{length, get_or}
use Rattle.table_file.proofs.strings.string.Given as goal

abbrev pub invariant-loop-at : goal.invariant-loop-at
invariant-loop-at l = (l.from ≤ l.at) × (l.at ≤ length l.text) × (get_or l.initial.store.filled.sizes 0 0 ≤ get_or l.store.filled.sizes 0 0)

abbrev pub decreases-loop-at : goal.decreases-loop-at
decreases-loop-at l = length l.text - l.at
