-- The token spells what the number so far and the digits left spell. Assumes nothing.
use Rattle.std.proofs.Common.{◌≡◌, drop}
use Rattle.table_file.specs.Decimals.{decimal_of, digits_behind}
use Rattle.table_file.proofs.numbers.decimal.Given as goal

abbrev pub invariant-loop-b : goal.invariant-loop-b
invariant-loop-b l = decimal_of l.token ≡ digits_behind l.value (drop l.b-index l.token)
