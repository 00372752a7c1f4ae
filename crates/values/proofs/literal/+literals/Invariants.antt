-- Both functions, by one induction: the containers that may still be opened fall. Assumes nothing.
use Prim.Native.Nat.{◌+◌, ◌*◌, ◌-◌}
use Rattle.graphql.specs.Values.{part_by_part}
use Rattle.values.specs.Literals.{literal_key_text}
use Rattle.values.proofs.Going.{Going}
use Rattle.values.proofs.literal.+literals.Given as goal

abbrev pub decreases-put_literal : goal.decreases-put_literal
decreases-put_literal l = l.room * 2 + 1

abbrev pub decreases-put_parts : goal.decreases-put_parts
decreases-put_parts l = l.room * 2

abbrev pub invariant-put_parts-loop-i : goal.invariant-put_parts-loop-i
invariant-put_parts-loop-i l = Going (literal_key_text l.tables.pool.now l.tables.names.now l.tables.literals.now) (part_by_part l.tables.pool.now l.tables.names.now l.tables.literals.now (l.room - 1)) l.keyed l.first l.count l.initial.text l.at l.text l.next l.i
