-- The worked depth checks are right: the definition computes each. Assumes nothing.
use mathlib.Core.Path.{◌≡◌, refl}
use mathlib.Core.Bool.{true}
use Rattle.graphql.specs.Kit.{all_depths_right}
use Rattle.limits.specs.Depths.{worked_depths}
use Rattle.graphql.proofs.Computing.{computing}

pub worked_depths_right : all_depths_right worked_depths ≡ true
unfolding computing
worked_depths_right = refl
