-- The worked runs are right: the definition computes each, chapter by chapter, since one computation may not go on without end.
-- Assumes nothing.
use mathlib.Core.Path.{◌≡◌, refl}
use mathlib.Core.Bool.{true}
use mathlib.Core.List.{◌++◌}
use Rattle.graphql.specs.Kit.{all_right}
use Rattle.graphql.specs.Apart.{apart_runs}
use Rattle.graphql.proofs.Computing.{computing}
use Rattle.graphql.proofs.Apart.{apart_right}
use Rattle.limits.specs.Runs.{limit_runs}
use Rattle.limits.proofs.Runs.{right_++, limits_right}
use Rattle.worked.specs.Errors.{error_runs}
use Rattle.worked.specs.Readings.{completing_runs, argument_runs, collecting_runs, reading_runs}
use Rattle.worked.specs.Orders.{order_runs}
use Rattle.worked.specs.Runs.{worked_runs}

-- ---- the chapters

errors_right : all_right error_runs ≡ true
unfolding computing
errors_right = refl

completing_right : all_right completing_runs ≡ true
unfolding computing
completing_right = refl

arguments_right : all_right argument_runs ≡ true
unfolding computing
arguments_right = refl

collecting_right : all_right collecting_runs ≡ true
unfolding computing
collecting_right = refl

orders_right : all_right order_runs ≡ true
unfolding computing
orders_right = refl

-- ---- together

readings_right : all_right reading_runs ≡ true
readings_right = right_++ completing_runs (argument_runs ++ collecting_runs) completing_right (right_++ argument_runs collecting_runs arguments_right collecting_right)

pub worked_runs_right : all_right worked_runs ≡ true
worked_runs_right =
    right_++ apart_runs (error_runs ++ (reading_runs ++ (limit_runs ++ order_runs))) apart_right
    (right_++ error_runs (reading_runs ++ (limit_runs ++ order_runs)) errors_right
    (right_++ reading_runs (limit_runs ++ order_runs) readings_right (right_++ limit_runs order_runs limits_right orders_right)))
