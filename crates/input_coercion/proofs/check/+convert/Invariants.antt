-- Both functions, by one induction: the containers that may still be opened fall. Assumes nothing.
use Prim.Native.Nat.{◌+◌, ◌*◌, ◌-◌}
use Rattle.input_coercion.specs.Coerced.{of_part}
use Rattle.input_coercion.proofs.Going.{Going}
use Rattle.input_coercion.proofs.check.+convert.Given as goal

abbrev pub decreases-check_part_by_part : goal.decreases-check_part_by_part
decreases-check_part_by_part l = l.room * 2 + 1

abbrev pub decreases-check_parts : goal.decreases-check_parts
decreases-check_parts l = l.room * 2

abbrev pub invariant-check_parts-loop-i : goal.invariant-check_parts-loop-i
invariant-check_parts-loop-i l = Going (of_part l.literals (l.room - 1)) l.first l.count l.i
