-- The arguments passed came to values; the first that did not ends it. Assumes nothing.
use Prim.Native.Nat.{◌-◌}
use Rattle.input_coercion.specs.Coerced.{of_argument}
use Rattle.input_coercion.proofs.Going.{Going}
use Rattle.input_coercion.proofs.arguments.coerce_argument_values.Given as goal

abbrev pub invariant-loop-i : goal.invariant-loop-i
invariant-loop-i l = Going (of_argument l.tables.type_refs.now l.tables.types.now l.tables.fields.now l.tables.nodes.now l.tables.literals.now l.tables.variables.now l.tables.arguments.now l.tables.given.now l.written) l.first l.count l.i
