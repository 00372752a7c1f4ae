-- The runs that tell the definition apart are right: it computes each. Assumes nothing.
use mathlib.Core.Path.{◌≡◌, refl}
use mathlib.Core.Bool.{true}
use Rattle.graphql.specs.Kit.{all_right}
use Rattle.graphql.specs.Apart.{apart_runs}
use Rattle.graphql.proofs.Computing.{computing}

pub apart_right : all_right apart_runs ≡ true
unfolding computing
apart_right = refl
