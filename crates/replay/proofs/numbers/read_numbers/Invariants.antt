-- Each turn takes a number, of which there is room for so many. Assumes nothing.
use Rattle.std.proofs.Common.{◌≤◌, length}
use Rattle.replay.proofs.numbers.read_numbers.Given as goal

abbrev pub invariant-loop-digits : goal.invariant-loop-digits
invariant-loop-digits l =
    (goal.iterator-loop-digits).can_next l.digits-iterator ×
    (goal.iterator-loop-digits).is_finite l.digits-iterator ×
    (l.count ≤ length l.numbers)
