-- The note on the range's end tells; a range that ends past the notes is gone through. Assumes nothing.
use native.Mathlib.Omega.{arith}
use Prim.Native.Nat.{◌+◌}
use Rattle.rules.specs.Json.{key_new, keys_distinct}
use Rattle.distinct.specs.Differ.{is_other, differ}
use Rattle.distinct.proofs.Differ.{since_range}
use Rattle.distinct.proofs.keys.keys_differ_since.Goals as goal

pub overflow_cast-result : goal.overflow_cast-result
overflow_cast-result c = omega (arith, c.type_inv.since (c.object_rows_at-rows.result.first + c.object_rows_at-rows.result.count))

pub returns-then-end-known : goal.returns-then-end-known
unfolding keys_distinct key_new differ is_other
returns-then-end-known c = rw (← c.object_rows_at-rows.ensures)
    (since_range _ _ _ c.requires.1 c.object_rows_at-rows.result.first c.object_rows_at-rows.result.count c.if-end-known.true)
