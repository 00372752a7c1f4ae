-- The cases A to N are right: the definition computes each. Assumes nothing.
use mathlib.Core.Path.{◌≡◌, refl}
use mathlib.Core.Bool.{true}
use Rattle.graphql.specs.Kit.{all_right}
use Rattle.graphql.specs.Cases.{cases}
use Rattle.graphql.proofs.Computing.{computing}

pub cases_right : all_right cases ≡ true
unfolding computing
cases_right = refl
