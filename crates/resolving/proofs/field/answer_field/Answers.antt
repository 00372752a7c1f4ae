-- By how the arguments end. Assumes nothing.
use Rattle.std.proofs.lemmas.Result.{err_from_is_err_and}
use Rattle.resolving.proofs.Answers.{arguments_lost, arguments_coerced}
use Rattle.resolving.proofs.field.answer_field.Goals as goal

pub returns-in_err-coerce_argument_values : goal.returns-in_err-coerce_argument_values
returns-in_err-coerce_argument_values c = let p = err_from_is_err_and c.from_residual.result c.from_residual.ensures.1 in rw (p.1, p.2)
    (arguments_lost c.coerce_argument_values.ensures c.in_err-coerce_argument_values.was)

pub returns : goal.returns
returns c = arguments_coerced c.coerce_argument_values.ensures c.requires.coercible.1 c.in_ok-coerce_argument_values.was c.resolve_field_value.ensures c.answer_of.ensures
