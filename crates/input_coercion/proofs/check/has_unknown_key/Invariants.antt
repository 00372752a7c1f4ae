-- The keys passed have a field each; the first that has none ends the search. Assumes nothing.
use Prim.Native.Nat.{◌-◌}
use Rattle.lookup.proofs.Searching.{Seeking}
use Rattle.input_coercion.proofs.Keys.{unknown}
use Rattle.input_coercion.proofs.check.has_unknown_key.Given as goal

abbrev pub invariant-loop-i : goal.invariant-loop-i
invariant-loop-i l = Seeking (unknown l.tables.types.now l.tables.fields.now l.tables.literals.now l.ty) (record { first = l.first; count = l.count }) l.i
