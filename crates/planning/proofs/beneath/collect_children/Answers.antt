-- The loop over the fields: what was collected so far is what the definition collects of the fields passed. Assumes nothing.
use mathlib.Core.Path.{◌≡◌}
use Rattle.std.specs.Prelude.{Err}
use Rattle.planning.proofs.Merged.{merging, merging_again, merging_stopped}
use borrow.Author.Rules.{rules}
use Rattle.planning.proofs.beneath.collect_children.Goals as goal

pub loop-i-init : goal.loop-i-init
loop-i-init c = search (merging, rules)

pub returns-in_err-so_far-clause-gathers : goal.returns-in_err-so_far-clause-gathers
returns-in_err-so_far-clause-gathers c =
    let e : c.from_residual.result ≡ Err c.in_err-so_far.field-0.0 = search rules in
    rw e (merging_stopped _ _ _ _ _ _ _ _ _ _ _ _ _ c.loop-i.invariant (search rules) c.collect_owned.ensures.collects c.in_err-so_far.was)

pub loop-i-preserved : goal.loop-i-preserved
loop-i-preserved c = merging_again _ _ _ _ _ _ _ _ _ _ _ _ _ c.loop-i.invariant (search rules) c.collect_owned.ensures.collects c.in_ok-so_far.was

pub returns-clause-gathers : goal.returns-clause-gathers
returns-clause-gathers c = search (merging, rules)
