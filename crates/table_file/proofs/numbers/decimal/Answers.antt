-- Each step reads one digit more; a step that is given up says what the token spells. Assumes nothing.
use Rattle.std.proofs.Common.{rules, ◌≡◌, arith}
use Rattle.std.specs.Prelude.{Err}
use Rattle.table_file.proofs.Digits.{no_token, begun, ended, given, given_up, stopped, one_more, over}
use Rattle.table_file.proofs.numbers.decimal.Goals as goal

pub returns-then-is_empty : goal.returns-then-is_empty
returns-then-is_empty c = search (no_token, rules)

pub loop-b-init : goal.loop-b-init
loop-b-init c = search (begun, rules)

pub returns-in_err-digit : goal.returns-in_err-digit
returns-in_err-digit c =
    let e : c.from_residual.result ≡ Err c.in_err-digit.field-0.0 = search rules in
    let no = given_up _ _ _ _ c.to_digit.ensures.value (rw c.ok_or.ensures.value at c.in_err-digit.was) in
    rw (e, no.1) (stopped _ _ _ c.loop-b.invariant c.loop-b-test.true no.0)

pub returns-in_err-tens : goal.returns-in_err-tens
returns-in_err-tens c =
    let e : c.from_residual-in_err-tens.result ≡ Err c.in_err-tens.field-0.0 = search rules in
    let d = given _ _ _ _ c.to_digit.ensures.value (rw c.ok_or.ensures.value at c.in_ok-digit.was) in
    let no = given_up _ _ _ _ c.checked_mul.ensures (rw c.ok_or-in-loop-b.ensures.value at c.in_err-tens.was) in
    rw (e, no.1) (over _ _ _ c.loop-b.invariant c.loop-b-test.true _ d (omega (arith, no.0)))

pub returns-in_err-value : goal.returns-in_err-value
returns-in_err-value c =
    let e : c.from_residual-in_err-value.result ≡ Err c.in_err-value.field-0.0 = search rules in
    let d = given _ _ _ _ c.to_digit.ensures.value (rw c.ok_or.ensures.value at c.in_ok-digit.was) in
    let t = given _ _ _ _ c.checked_mul.ensures (rw c.ok_or-in-loop-b.ensures.value at c.in_ok-tens.was) in
    let no = given_up _ _ _ _ c.checked_add.ensures (rw c.ok_or-in-loop-b-2.ensures.value at c.in_err-value.was) in
    rw (e, no.1) (over _ _ _ c.loop-b.invariant c.loop-b-test.true _ d (omega (arith, no.0, t.1)))

pub loop-b-preserved : goal.loop-b-preserved
loop-b-preserved c =
    let d = given _ _ _ _ c.to_digit.ensures.value (rw c.ok_or.ensures.value at c.in_ok-digit.was) in
    let t = given _ _ _ _ c.checked_mul.ensures (rw c.ok_or-in-loop-b.ensures.value at c.in_ok-tens.was) in
    let v = given _ _ _ _ c.checked_add.ensures (rw c.ok_or-in-loop-b-2.ensures.value at c.in_ok-value.was) in
    rw (v.1, t.1) (one_more _ _ _ c.loop-b.invariant c.loop-b-test.true _ d (omega (arith, v.0, t.1)))

pub returns : goal.returns
returns c = ended _ _ _ c.loop-b.invariant (omega (arith, c.loop-b-test.false))
