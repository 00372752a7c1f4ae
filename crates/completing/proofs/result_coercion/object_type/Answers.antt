-- A type that is named, and an object at it. Assumes nothing.
use Rattle.std.proofs.lemmas.Result.{err_from_is_err_and}
use Rattle.completing.proofs.Types.{object_typed, object_untyped}
use Rattle.completing.proofs.result_coercion.object_type.Goals as goal

pub returns-in_err-row : goal.returns-in_err-row
returns-in_err-row c = let p = err_from_is_err_and c.from_residual.result c.from_residual.ensures.1 in rw (p.1, p.2)
    (object_untyped _ _ _ c.named_type.ensures c.in_err-row.was)

pub returns : goal.returns
returns c = object_typed _ _ _ c.named_type.ensures c.in_ok-row.was c.object_at.ensures
