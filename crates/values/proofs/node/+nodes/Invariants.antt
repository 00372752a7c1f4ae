-- Both functions, by one induction: the containers that may still be opened fall. Assumes nothing.
use Prim.Native.Nat.{◌+◌, ◌*◌, ◌-◌}
use Rattle.graphql.specs.Values.{node_value}
use Rattle.values.specs.Put.{key_text}
use Rattle.values.proofs.Going.{Going}
use Rattle.values.proofs.node.+nodes.Given as goal

abbrev pub decreases-put_container : goal.decreases-put_container
decreases-put_container l = l.room * 2

abbrev pub decreases-put_node : goal.decreases-put_node
decreases-put_node l = l.room * 2 + 1

abbrev pub invariant-put_container-loop-i : goal.invariant-put_container-loop-i
invariant-put_container-loop-i l = Going (key_text l.tables.pool.now l.tables.nodes.now) (node_value l.tables.pool.now l.tables.nodes.now (l.room - 1)) l.keyed l.first l.count l.initial.text l.at l.text l.next l.i
