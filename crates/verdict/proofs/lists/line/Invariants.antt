-- The line that is asked for is one of what is left, by its number among the lines left. Assumes nothing.
use Rattle.std.proofs.Common.{◌≡◌, ◌-◌, ◌≤◌, length}
use Rattle.verdict.specs.Lines.{line_of}
use Rattle.verdict.proofs.lists.line.Given as goal

abbrev pub invariant-loop : goal.invariant-loop
invariant-loop l = (line_of l.list l.number ≡ line_of l.rest (l.number - l.counter)) × (length l.rest ≤ length l.list)
