-- The union names the object type. Assumes nothing.
use Rattle.std.proofs.lemmas.Result.{err_from_is_err_and}
use Rattle.completing.proofs.Types.{object_member, union_unknown}
use Rattle.completing.proofs.result_coercion.Completer.member_of.Goals as goal

pub returns-in_err-object : goal.returns-in_err-object
returns-in_err-object c = let p = err_from_is_err_and c.from_residual.result c.from_residual.ensures.1 in rw (p.1, p.2)
    (union_unknown _ _ c.object_named.ensures c.in_err-object.ensures.ok_part c.in_err-object.ensures.value)

pub lists_name-requires : goal.lists_name-requires
lists_name-requires c = c.args.self.listed.within _

pub returns : goal.returns
returns c = object_member _ _ c.object_named.ensures c.in_ok-object.ensures.ok_part c.lists_name.ensures c.only_if.ensures
