-- Each step leaves a line behind, and the last one left first is the line. Assumes nothing.
use Rattle.std.proofs.Common.{rules, ◌≡◌, ◌+◌, ◌-◌, ◌<◌, sym, ◌∙◌, arith}
use Rattle.verdict.proofs.Listed.{last_line, no_line, line_behind, feed_inside, no_longer}
use Rattle.verdict.proofs.lists.line.Goals as goal

pub returns-in_default : goal.returns-in_default
returns-in_default c =
    let left : 0 < c.args.number - c.loop.counter = omega (arith, c.loop-test.true) in
    no_line _ _ left (sym c.line_feed.ensures ∙ c.in_default.is) ∙ sym c.loop.invariant.0

pub overflow_add-rest : goal.overflow_add-rest
overflow_add-rest c =
    let inside = feed_inside c.loop.rest.now _ (sym c.line_feed.ensures ∙ c.in-Some.is) in
    let short = c.loop.invariant.1 in search rules

pub loop-preserved : goal.loop-preserved
loop-preserved c =
    let left : 0 < c.args.number - c.loop.counter = omega (arith, c.loop-test.true) in
    let step : c.args.number - c.loop.counter - 1 ≡ c.args.number - (c.loop.counter + 1) = omega arith in
    (rw step at (c.loop.invariant.0 ∙ line_behind _ _ left _ (sym c.line_feed.ensures ∙ c.in-Some.is)), no_longer _ _ _ _ c.loop.invariant.1)

pub returns : goal.returns
returns c =
    let none : c.args.number - c.loop.counter ≡ 0 = omega (arith, c.loop-test.false) in
    last_line _ _ _ c.line_feed-2.ensures c.unwrap_or-end.ensures ∙ sym (rw none at c.loop.invariant.0)
