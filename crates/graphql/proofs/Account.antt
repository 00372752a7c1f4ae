-- The runs of which everything is told end as they are told: the definition computes each. Assumes nothing.
use mathlib.Core.Path.{◌≡◌, refl}
use mathlib.Core.List.{map}
use Rattle.graphql.specs.Report.{walk}
use Rattle.graphql.specs.Kit.{asking}
use Rattle.graphql.specs.Account.{Account, accounts}
use Rattle.graphql.proofs.Computing.{computing}

pub accounts_right : map (λ (a : Account). walk (asking a.kit) a.choices) accounts ≡ map (λ (a : Account). a.ended) accounts
unfolding computing
accounts_right = refl
