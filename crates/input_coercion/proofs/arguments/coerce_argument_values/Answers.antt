-- The arguments passed came to values; the first that did not ends it. Assumes nothing.
use borrow.Author.Rules.{rules}
use Rattle.std.proofs.lemmas.Result.{err_from_is_err_and}
use Rattle.input_coercion.proofs.Arguing.{listing}
use Rattle.input_coercion.proofs.arguments.coerce_argument_values.Goals as goal

pub loop-i-init : goal.loop-i-init
loop-i-init c = search listing

pub returns-in_err-coerce_argument : goal.returns-in_err-coerce_argument
returns-in_err-coerce_argument c = let p = err_from_is_err_and c.from_residual.result c.from_residual.ensures.1 in rw (p.1, p.2) (search (listing, c.in_err-coerce_argument.ensures))

pub loop-i-preserved : goal.loop-i-preserved
loop-i-preserved c = search (listing, rules, c.in_ok-coerce_argument.ensures)

pub returns : goal.returns
returns c = search (listing, rules)
