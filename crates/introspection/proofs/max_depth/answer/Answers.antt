-- By how the check ended: the code is the outcome's, the depth and the place stand in the case. Assumes nothing.
use mathlib.Core.Path.{◌≡◌, refl}
use Rattle.std.specs.Prelude.{Err}
use borrow.Author.Rules.{rules}
use Rattle.graphql.specs.Depth.{answered}
use Rattle.introspection.specs.declared.max_depth.Unmeasured.TheVariants.{TooManySets, TooDeep}
use Rattle.introspection.proofs.max_depth.answer.Goals as goal

pub returns-in-Err-TooManySets : goal.returns-in-Err-TooManySets
unfolding answered
returns-in-Err-TooManySets c =
    let e : c.args.checked ≡ Err TooManySets = search rules in
    rw (e, c.answered_by.ensures) (record { code = refl; depth = refl; place = refl })

pub returns-in-Err-TooDeep : goal.returns-in-Err-TooDeep
unfolding answered
returns-in-Err-TooDeep c =
    let e : c.args.checked ≡ Err (TooDeep c.in-Err-TooDeep.place) = search rules in
    rw (e, c.answered_by-in-Err-TooDeep.ensures) (record { code = refl; depth = refl; place = refl })

pub returns-in-Ok : goal.returns-in-Ok
unfolding answered
returns-in-Ok c = rw (c.in-Ok.is, c.answered_by-in-Ok.ensures) (record { code = refl; depth = refl; place = refl })
