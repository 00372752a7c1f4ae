-- A literal at a type, by one induction: the containers that may still be opened fall. Assumes nothing.
use Prim.Native.Nat.{◌+◌, ◌*◌, ◌-◌}
use Rattle.graphql.specs.Lookup.{rows_in}
use Rattle.input_coercion.specs.Coerced.{of_value, of_field}
use Rattle.input_coercion.proofs.Going.{Going}
use Rattle.input_coercion.proofs.check.+coerce.Given as goal

abbrev pub decreases-coerce_argument_value : goal.decreases-coerce_argument_value
decreases-coerce_argument_value l = l.room * 8 + 7

abbrev pub decreases-coerce_items : goal.decreases-coerce_items
decreases-coerce_items l = l.room * 8 + 3

abbrev pub decreases-coerce_named : goal.decreases-coerce_named
decreases-coerce_named l = l.room * 8 + 5

abbrev pub decreases-coerce_shape : goal.decreases-coerce_shape
decreases-coerce_shape l = l.room * 8 + 6

abbrev pub decreases-input_field : goal.decreases-input_field
decreases-input_field l = l.room * 8 + 8

abbrev pub decreases-input_fields : goal.decreases-input_fields
decreases-input_fields l = l.room * 8 + 3

abbrev pub decreases-input_object : goal.decreases-input_object
decreases-input_object l = l.room * 8 + 4

abbrev pub invariant-coerce_items-loop-i : goal.invariant-coerce_items-loop-i
invariant-coerce_items-loop-i l = Going (of_value l.tables.type_refs.now l.tables.types.now l.tables.fields.now l.tables.nodes.now l.tables.literals.now l.tables.variables.now (l.room - 1) l.inner) l.first l.count l.i

abbrev pub invariant-input_fields-loop-i : goal.invariant-input_fields-loop-i
invariant-input_fields-loop-i l = Going (of_field l.tables.type_refs.now l.tables.types.now l.tables.fields.now l.tables.nodes.now l.tables.literals.now l.tables.variables.now (l.room - 1) l.row (rows_in l.given)) l.first l.count l.i
