-- By what its type came to. Assumes nothing.
use Rattle.std.proofs.lemmas.Result.{err_from_is_err_and}
use Rattle.resolving.proofs.Opened.{object_fails, object_opens}
use Rattle.resolving.proofs.field.open_object.Goals as goal

pub returns-in_err-object : goal.returns-in_err-object
returns-in_err-object c = let p = err_from_is_err_and c.from_residual.result c.from_residual.ensures.1 in rw (p.1, p.2)
    (object_fails c.object_type.ensures c.in_err-object.was)

pub returns : goal.returns
returns c = object_opens c.object_type.ensures c.requires.1 c.in_ok-object.was
