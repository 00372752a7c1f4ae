-- Both functions, by one induction: the containers that may still be opened fall. Assumes nothing.
use mathlib.Core.Path.{◌≡◌}
use borrow.Author.Rules.{rules}
use native.Mathlib.Omega.{arith}
use Rattle.std.specs.Prelude.{Err}
use Rattle.values.proofs.Literals.{walking}
use Rattle.values.proofs.literal.+literals.Goals as goal

ruleset walk = (walking, rules)

pub put_literal-returns-in-List : goal.put_literal-returns-in-List
put_literal-returns-in-List t c = search walk

pub put_literal-returns-in-Object : goal.put_literal-returns-in-Object
put_literal-returns-in-Object t c = search walk

pub put_literal-returns-in-Variable : goal.put_literal-returns-in-Variable
put_literal-returns-in-Variable t c = search walk

pub put_literal-returns-in_default : goal.put_literal-returns-in_default
put_literal-returns-in_default t c = search walk

pub put_parts-returns-then-room-eq0 : goal.put_parts-returns-then-room-eq0
put_parts-returns-then-room-eq0 t c = search walk

pub put_parts-loop-i-init : goal.put_parts-loop-i-init
put_parts-loop-i-init t c = search walk

pub put_parts-returns-in_err-next : goal.put_parts-returns-in_err-next
put_parts-returns-in_err-next t c =
    let gone : c.from_residual.result ≡ Err c.in_err-next.field-0.0 = grind arith in
    let stopped : c.put_literal.result ≡ Err c.in_err-next.field-0.0 = c.in_err-next.was in
    rw gone (search walk)

pub put_parts-loop-i-preserved : goal.put_parts-loop-i-preserved
put_parts-loop-i-preserved t c = search walk

pub put_parts-returns : goal.put_parts-returns
put_parts-returns t c = search walk
