-- What is collected beneath the group is put; where collecting stops, nothing is. Assumes nothing.
use mathlib.Core.Path.{◌≡◌}
use Rattle.std.specs.Prelude.{Err}
use Rattle.planning.proofs.Alone.{apart_puttable, apart_stopped, apart_made}
use borrow.Author.Rules.{rules}
use Rattle.planning.proofs.plan.plan_apart.Goals as goal

pub collect_group-requires : goal.collect_group-requires
collect_group-requires c = (search (c.requires.0.collectable, rules), c.requires.1)

pub returns-in_err-gathered-clause-planned : goal.returns-in_err-gathered-clause-planned
returns-in_err-gathered-clause-planned c =
    let e : c.from_residual.result ≡ Err c.in_err-gathered.field-0.0 = search rules in
    rw e (apart_stopped c.requires.0 c.collect_group.ensures.gathers c.in_err-gathered.was)

pub plan_set-requires : goal.plan_set-requires
plan_set-requires c = apart_puttable c.requires.0 c.collect_group.ensures.gathers c.in_ok-gathered.was

pub returns-clause-planned : goal.returns-clause-planned
returns-clause-planned c = apart_made c.requires.0 c.collect_group.ensures.gathers c.in_ok-gathered.was c.plan_set.ensures
