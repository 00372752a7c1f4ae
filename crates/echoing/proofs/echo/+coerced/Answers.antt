-- A literal at a type, written, by one induction: the containers that may still be opened fall. Assumes nothing.
use mathlib.Core.Path.{◌≡◌}
use borrow.Author.Rules.{rules}
use Rattle.std.specs.Prelude.{None, Some}
use Rattle.echoing.proofs.Fields.{items_again}
use Rattle.echoing.proofs.Walk.{literals_parted_lem, valuing, shaping, naming, itemizing, fielding, opening}
use Rattle.echoing.proofs.echo.+coerced.Goals as goal

pub put_coerced-returns-in-Null : goal.put_coerced-returns-in-Null
put_coerced-returns-in-Null t c = search (valuing, rules)

pub put_coerced-returns-in-Variable : goal.put_coerced-returns-in-Variable
put_coerced-returns-in-Variable t c = search (valuing, rules)

pub put_coerced-returns-in-Shaped : goal.put_coerced-returns-in-Shaped
put_coerced-returns-in-Shaped t c = search (valuing, rules)

pub put_input_field-returns-in-Some : goal.put_input_field-returns-in-Some
put_input_field-returns-in-Some t c = search (fielding, rules)

pub put_input_field-returns-in_default-default : goal.put_input_field-returns-in_default-default
put_input_field-returns-in_default-default t c = search (fielding, rules)

pub put_input_field-put_checked_literal-requires : goal.put_input_field-put_checked_literal-requires
put_input_field-put_checked_literal-requires t c = literals_parted_lem c.requires.coercible

pub put_input_field-returns : goal.put_input_field-returns
put_input_field-returns t c = search (fielding, rules)

pub put_input_object-returns-then-room-eq0 : goal.put_input_object-returns-then-room-eq0
put_input_object-returns-then-room-eq0 t c = search (opening, rules)

pub put_input_object-loop-i-init : goal.put_input_object-loop-i-init
put_input_object-loop-i-init t c = search (opening, rules)

pub put_input_object-loop-i-preserved : goal.put_input_object-loop-i-preserved
put_input_object-loop-i-preserved t c =
    let there : c.put_input_field.result ≡ Some c.in_ok-next.next = c.in_ok-next.was in
    search (opening, rules)

pub put_input_object-returns : goal.put_input_object-returns
put_input_object-returns t c = search (opening, rules)

pub put_items-returns-then-room-eq0 : goal.put_items-returns-then-room-eq0
put_items-returns-then-room-eq0 t c = search (itemizing, rules)

pub put_items-loop-i-init : goal.put_items-loop-i-init
put_items-loop-i-init t c = search (itemizing, rules)

pub put_items-loop-i-preserved : goal.put_items-loop-i-preserved
put_items-loop-i-preserved t c = items_again _ _ _ _ _ _ _ _ _ _ _
    c.loop-i.invariant
    c.loop-i-test.true
    c.put-value.ensures
    c.put_coerced.ensures (search rules)

pub put_items-returns : goal.put_items-returns
put_items-returns t c = search (itemizing, rules)

pub put_named-put_checked_literal-requires : goal.put_named-put_checked_literal-requires
put_named-put_checked_literal-requires t c = literals_parted_lem c.requires.coercible

pub put_named-returns-in_default : goal.put_named-returns-in_default
put_named-returns-in_default t c = let found : c.type_named.result ≡ Some c.in_ok-ty.ty = c.in_ok-ty.was in search (naming, rules)

pub put_named-returns-in_default-shape : goal.put_named-returns-in_default-shape
put_named-returns-in_default-shape t c = let found : c.type_named.result ≡ Some c.in_ok-ty.ty = c.in_ok-ty.was in search (naming, rules)

pub put_named-returns : goal.put_named-returns
put_named-returns t c = let found : c.type_named.result ≡ Some c.in_ok-ty.ty = c.in_ok-ty.was in search (naming, rules)

pub put_shaped-returns-in-Named : goal.put_shaped-returns-in-Named
put_shaped-returns-in-Named t c = search (shaping, rules)

pub put_shaped-returns-in-ListOf : goal.put_shaped-returns-in-ListOf
put_shaped-returns-in-ListOf t c = search (shaping, rules)

pub put_shaped-returns-in-Unknown : goal.put_shaped-returns-in-Unknown
put_shaped-returns-in-Unknown t c = search (shaping, rules)

pub put_input_object-returns-in_err-next : goal.put_input_object-returns-in_err-next
put_input_object-returns-in_err-next t c =
    let far : c.put_input_field.result ≡ None = c.in_err-next.was in
    rw c.from_residual.ensures (search (opening, rules))

pub put_items-returns-in_err-next : goal.put_items-returns-in_err-next
put_items-returns-in_err-next t c =
    let far : c.put_coerced.result ≡ None = c.in_err-next.was in
    rw c.from_residual.ensures (search (itemizing, rules))

pub put_named-returns-in_err-ty : goal.put_named-returns-in_err-ty
put_named-returns-in_err-ty t c =
    let none : c.type_named.result ≡ None = c.in_err-ty.was in
    rw c.from_residual.ensures (search (naming, rules))
