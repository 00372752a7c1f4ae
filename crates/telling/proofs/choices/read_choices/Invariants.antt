-- Each turn takes a choice, of which there is room for so many. Assumes nothing.
use Rattle.std.proofs.Common.{◌≤◌, length}
use Rattle.telling.proofs.choices.read_choices.Given as goal

abbrev pub invariant-loop-number : goal.invariant-loop-number
invariant-loop-number l =
    (goal.iterator-loop-number).can_next l.number-iterator ×
    (goal.iterator-loop-number).is_finite l.number-iterator ×
    (l.count ≤ length l.choices)
