-- A literal at a type, by one induction: the containers that may still be opened fall. Assumes nothing.
use borrow.Author.Rules.{rules}
use Rattle.std.proofs.lemmas.Result.{err_from_is_err_and}
use Rattle.input_coercion.proofs.Walk.{valuing, itemizing, naming, shaping, fielding, opening, objecting}
use Rattle.input_coercion.proofs.check.+coerce.Goals as goal

pub coerce_argument_value-returns-then-is_non_null : goal.coerce_argument_value-returns-then-is_non_null
coerce_argument_value-returns-then-is_non_null t c = search valuing

pub coerce_argument_value-coerce_shape-requires : goal.coerce_argument_value-coerce_shape-requires
coerce_argument_value-coerce_shape-requires t c = search (valuing, rules)

pub coerce_argument_value-returns-else-is_non_null : goal.coerce_argument_value-returns-else-is_non_null
coerce_argument_value-returns-else-is_non_null t c = search valuing

pub coerce_argument_value-returns-in-Variable : goal.coerce_argument_value-returns-in-Variable
coerce_argument_value-returns-in-Variable t c = search valuing

pub coerce_argument_value-returns-in-Shaped : goal.coerce_argument_value-returns-in-Shaped
coerce_argument_value-returns-in-Shaped t c = search valuing

pub coerce_items-returns-then-room-eq0 : goal.coerce_items-returns-then-room-eq0
coerce_items-returns-then-room-eq0 t c = search itemizing

pub coerce_items-loop-i-init : goal.coerce_items-loop-i-init
coerce_items-loop-i-init t c = search (itemizing, rules)

pub coerce_items-returns-in_err-coerce_argument_value : goal.coerce_items-returns-in_err-coerce_argument_value
coerce_items-returns-in_err-coerce_argument_value t c = let p = err_from_is_err_and c.from_residual.result c.from_residual.ensures.1 in rw (p.1, p.2) (search (itemizing, c.in_err-coerce_argument_value.ensures))

pub coerce_items-loop-i-preserved : goal.coerce_items-loop-i-preserved
coerce_items-loop-i-preserved t c = search (itemizing, rules, c.in_ok-coerce_argument_value.ensures)

pub coerce_items-returns : goal.coerce_items-returns
coerce_items-returns t c = search itemizing

pub coerce_named-returns-in_default : goal.coerce_named-returns-in_default
coerce_named-returns-in_default t c = search naming

pub coerce_named-returns-in_default-kind : goal.coerce_named-returns-in_default-kind
coerce_named-returns-in_default-kind t c = search naming

pub coerce_named-returns : goal.coerce_named-returns
coerce_named-returns t c = search naming

pub coerce_shape-items_of-requires : goal.coerce_shape-items_of-requires
coerce_shape-items_of-requires t c = search (shaping, rules)

pub coerce_shape-returns-in-Named : goal.coerce_shape-returns-in-Named
coerce_shape-returns-in-Named t c = search shaping

pub coerce_shape-returns-in-ListOf : goal.coerce_shape-returns-in-ListOf
coerce_shape-returns-in-ListOf t c = search shaping

pub coerce_shape-returns-in-Unknown : goal.coerce_shape-returns-in-Unknown
coerce_shape-returns-in-Unknown t c = search shaping

pub input_field-returns-in-Some : goal.input_field-returns-in-Some
input_field-returns-in-Some t c = search fielding

pub input_field-returns-then-is_non_null : goal.input_field-returns-then-is_non_null
input_field-returns-then-is_non_null t c = search fielding

pub input_field-returns-in-Some-default : goal.input_field-returns-in-Some-default
input_field-returns-in-Some-default t c = search fielding

pub input_field-returns-else-is_non_null : goal.input_field-returns-else-is_non_null
input_field-returns-else-is_non_null t c = search fielding

pub input_fields-returns-then-room-eq0 : goal.input_fields-returns-then-room-eq0
input_fields-returns-then-room-eq0 t c = search opening

pub input_fields-loop-i-init : goal.input_fields-loop-i-init
input_fields-loop-i-init t c = search (opening, rules)

pub input_fields-returns-in_err-input_field : goal.input_fields-returns-in_err-input_field
input_fields-returns-in_err-input_field t c = let p = err_from_is_err_and c.from_residual.result c.from_residual.ensures.1 in rw (p.1, p.2) (search (opening, c.in_err-input_field.ensures))

pub input_fields-loop-i-preserved : goal.input_fields-loop-i-preserved
input_fields-loop-i-preserved t c = search (opening, rules, c.in_ok-input_field.ensures)

pub input_fields-returns : goal.input_fields-returns
input_fields-returns t c = search opening

pub input_object-returns-in_default : goal.input_object-returns-in_default
input_object-returns-in_default t c = search objecting

pub input_object-has_unknown_key-requires : goal.input_object-has_unknown_key-requires
input_object-has_unknown_key-requires t c = search (objecting, rules)

pub input_object-returns-then-has_unknown_key : goal.input_object-returns-then-has_unknown_key
input_object-returns-then-has_unknown_key t c = search objecting

pub input_object-input_fields-requires : goal.input_object-input_fields-requires
input_object-input_fields-requires t c = search (objecting, rules)

pub input_object-returns : goal.input_object-returns
input_object-returns t c = search objecting
