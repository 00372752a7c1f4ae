use borrow.Author.Rules.{rules}
use Rattle.tables.proofs.Looked.{passed_none, passed_more, looked_broken, looked_ended}
use Rattle.tables.proofs.data.look_at_rows.Goals as goal

pub loop-row-init : goal.loop-row-init
loop-row-init g c = (search rules, λ p q h k. passed_none p q)

pub returns-then-not-holds : goal.returns-then-not-holds
returns-then-not-holds g c = λ p q h k. looked_broken p q c.loop-row.row _ c.holds.result c.loop-row-test.true (h _ _ c.holds.ensures) (search rules)

pub loop-row-preserved : goal.loop-row-preserved
loop-row-preserved g c = (search rules, λ p q h k. passed_more p q c.loop-row.row _ c.holds.result c.is_plain-plain.result (c.loop-row.invariant.1 p q h k) (h _ _ c.holds.ensures) (search rules) (k _ _ c.is_plain-plain.ensures))

pub returns : goal.returns
returns g c = λ p q h k. looked_ended p q c.loop-row.row _ c.loop-row.plain (c.loop-row.invariant.1 p q h k) c.loop-row.invariant.0 c.loop-row-test.false
