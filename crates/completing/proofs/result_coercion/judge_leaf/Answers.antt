-- A null, or a type that is named and a leaf at it. Assumes nothing.
use Rattle.std.proofs.lemmas.Result.{err_from_is_err_and}
use Rattle.completing.proofs.Leaves.{leaf_null, leaf_typed, leaf_untyped}
use Rattle.completing.proofs.result_coercion.judge_leaf.Goals as goal

pub returns-in-Null : goal.returns-in-Null
returns-in-Null c = leaf_null _ _ _ _ _ c.in-Null.is c.null_at.ensures

pub returns-in_err-row : goal.returns-in_err-row
returns-in_err-row c = let p = err_from_is_err_and c.from_residual.result c.from_residual.ensures.1 in rw (p.1, p.2)
    (leaf_untyped _ _ _ _ _ c.in_default.not-Null c.named_type.ensures c.in_err-row.was)

pub returns : goal.returns
returns c = leaf_typed _ _ _ _ _ c.in_default.not-Null c.named_type.ensures c.in_ok-row.was c.leaf_at.ensures
