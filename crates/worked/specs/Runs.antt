-- Every worked run: what the cases A to N leave out, as one table.
use Rattle.std.specs.Prelude.{List, ◌++◌}
use Rattle.graphql.specs.Kit.{Case}
use Rattle.graphql.specs.Apart.{apart_runs}
use Rattle.limits.specs.Runs.{limit_runs}
use Rattle.worked.specs.Errors.{error_runs}
use Rattle.worked.specs.Readings.{reading_runs}
use Rattle.worked.specs.Orders.{order_runs}

abbrev pub worked_runs : List Case
worked_runs = apart_runs ++ (error_runs ++ (reading_runs ++ (limit_runs ++ order_runs)))
