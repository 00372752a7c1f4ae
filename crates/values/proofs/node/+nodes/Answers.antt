-- Both functions, by one induction: the containers that may still be opened fall. Assumes nothing.
use mathlib.Core.Path.{◌≡◌}
use borrow.Author.Rules.{rules}
use native.Mathlib.Omega.{arith}
use Rattle.std.specs.Prelude.{Err}
use Rattle.values.proofs.Walk.{walking}
use Rattle.values.proofs.node.+nodes.Goals as goal

ruleset walk = (walking, rules)

pub put_container-returns-then-room-eq0 : goal.put_container-returns-then-room-eq0
put_container-returns-then-room-eq0 t c = search walk

pub put_container-loop-i-init : goal.put_container-loop-i-init
put_container-loop-i-init t c = search walk

pub put_container-returns-in_err-next : goal.put_container-returns-in_err-next
put_container-returns-in_err-next t c =
    let gone : c.from_residual.result ≡ Err c.in_err-next.field-0.0 = grind arith in
    let stopped : c.put_node.result ≡ Err c.in_err-next.field-0.0 = c.in_err-next.was in
    rw gone (search walk)

pub put_container-loop-i-preserved : goal.put_container-loop-i-preserved
put_container-loop-i-preserved t c = search walk

pub put_container-returns : goal.put_container-returns
put_container-returns t c = search walk

pub put_node-returns-in_default : goal.put_node-returns-in_default
put_node-returns-in_default t c = search walk

pub put_node-returns : goal.put_node-returns
put_node-returns t c = search walk
