-- What is collected is put; where collecting stops, nothing is. Assumes nothing.
use mathlib.Core.Path.{◌≡◌}
use Rattle.std.specs.Prelude.{Err}
use Rattle.planning.proofs.Found.{plans_stopped, plans_made, gathered_puttable, looking_there}
use borrow.Author.Rules.{rules}
use Rattle.planning.proofs.plan.make_plan.Goals as goal

pub collect_group-requires : goal.collect_group-requires
collect_group-requires c = (search (c.requires.0.collectable, rules), looking_there c.requires.0)

pub returns-in_err-gathered-clause-planned : goal.returns-in_err-gathered-clause-planned
returns-in_err-gathered-clause-planned c =
    let e : c.from_residual.result ≡ Err c.in_err-gathered.field-0.0 = search rules in
    rw e (plans_stopped c.requires.0 c.collect_group.ensures.gathers c.in_err-gathered.was)

pub put_plan-requires : goal.put_plan-requires
put_plan-requires c = gathered_puttable c.requires.0 c.requires.1 c.collect_group.ensures.gathers c.in_ok-gathered.was

pub returns-clause-planned : goal.returns-clause-planned
returns-clause-planned c = plans_made c.requires.0 c.requires.1 c.collect_group.ensures.gathers c.in_ok-gathered.was c.put_plan.ensures
