-- A string that has one byte more is written with the escape of that byte behind it. Assumes nothing.
use Rattle.tokens.specs.Escape.{escaped_all}
use Rattle.writing.proofs.Putting.{Putting}
use Rattle.tokens.proofs.json.put_each_escaped.Given as goal

abbrev pub invariant-loop-b : goal.invariant-loop-b
invariant-loop-b l = Putting escaped_all l.initial.text l.at l.s l.text l.next l.b-index
