-- A literal at a type, written, by one induction: the containers that may still be opened fall. Assumes nothing.
use Prim.Native.Nat.{◌+◌, ◌*◌, ◌-◌}
use Rattle.graphql.specs.Json.{containers}
use Rattle.graphql.specs.Lookup.{rows_in}
use Rattle.echoing.specs.Echo.{field_size, field_out, of_value, of_field}
use Rattle.echoing.proofs.Loop.{Going}
use Rattle.echoing.proofs.Fields.{item_out}
use Rattle.echoing.proofs.echo.+coerced.Given as goal

abbrev pub decreases-put_coerced : goal.decreases-put_coerced
decreases-put_coerced l = l.room * 8 + 7

abbrev pub decreases-put_input_field : goal.decreases-put_input_field
decreases-put_input_field l = l.room * 8 + 8

abbrev pub decreases-put_input_object : goal.decreases-put_input_object
decreases-put_input_object l = l.room * 8 + 3

abbrev pub decreases-put_items : goal.decreases-put_items
decreases-put_items l = l.room * 8 + 3

abbrev pub decreases-put_named : goal.decreases-put_named
decreases-put_named l = l.room * 8 + 5

abbrev pub decreases-put_shaped : goal.decreases-put_shaped
decreases-put_shaped l = l.room * 8 + 6

abbrev pub invariant-put_input_object-loop-i : goal.invariant-put_input_object-loop-i
invariant-put_input_object-loop-i l = Going field_size (field_out l.tables.pool.now l.tables.names.now l.tables.fields.now) (l.room - 1) (of_field l.tables.pool.now l.tables.names.now l.tables.type_refs.now l.tables.types.now l.tables.fields.now l.tables.nodes.now l.tables.literals.now l.tables.variables.now (l.room - 1)
    (rows_in l.given)) l.first l.count l.initial.text l.at l.text l.next l.i

abbrev pub invariant-put_items-loop-i : goal.invariant-put_items-loop-i
invariant-put_items-loop-i l = Going containers item_out (l.room - 1) (of_value l.tables.pool.now l.tables.names.now l.tables.type_refs.now l.tables.types.now l.tables.fields.now l.tables.nodes.now l.tables.literals.now l.tables.variables.now
    (l.room - 1) l.inner) l.first l.count l.initial.text l.at l.text l.next l.i
