-- What is collected of the operation's set is put; where collecting stops, nothing is. Assumes nothing.
use mathlib.Core.Path.{◌≡◌}
use Rattle.std.specs.Prelude.{Err}
use Rattle.planning.proofs.Alone.{operation_gathering, alone_puttable, alone_stopped, alone_made}
use borrow.Author.Rules.{rules}
use Rattle.planning.proofs.plan.plan_operation.Goals as goal

pub collect_operation-requires : goal.collect_operation-requires
collect_operation-requires c = c.requires.collectable _ (search rules)

pub returns-in_err-gathered-clause-planned : goal.returns-in_err-gathered-clause-planned
returns-in_err-gathered-clause-planned c =
    let e : c.from_residual.result ≡ Err c.in_err-gathered.field-0.0 = search rules in
    rw e (alone_stopped c.requires (operation_gathering c.collect_operation.ensures.collects (search rules)) c.in_err-gathered.was)

pub plan_set-requires : goal.plan_set-requires
plan_set-requires c = alone_puttable c.requires (operation_gathering c.collect_operation.ensures.collects (search rules)) c.in_ok-gathered.was

pub returns-clause-planned : goal.returns-clause-planned
returns-clause-planned c = alone_made c.requires (operation_gathering c.collect_operation.ensures.collects (search rules)) c.in_ok-gathered.was c.plan_set.ensures
