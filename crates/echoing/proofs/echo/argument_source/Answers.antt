-- The argument has no definition; or it is not given, or given as a variable, or as another literal. Assumes nothing.
use mathlib.Core.Path.{◌≡◌}
use Rattle.std.specs.Prelude.{Some}
use Rattle.echoing.proofs.Sources.{source_unknown, sourcing}
use Rattle.echoing.proofs.echo.argument_source.Goals as goal

pub returns-in_err-row : goal.returns-in_err-row
returns-in_err-row c = rw c.from_residual.ensures (source_unknown _ _ _ _ _ _ _ c.definition_named.ensures c.in_err-row.was)

pub returns-in_default : goal.returns-in_default
returns-in_default c = let found : c.definition_named.result ≡ Some c.in_ok-row.row = c.in_ok-row.was in search sourcing

pub returns-in-Variable : goal.returns-in-Variable
returns-in-Variable c = let found : c.definition_named.result ≡ Some c.in_ok-row.row = c.in_ok-row.was in search sourcing

pub returns-in_default-literal_form : goal.returns-in_default-literal_form
returns-in_default-literal_form c = let found : c.definition_named.result ≡ Some c.in_ok-row.row = c.in_ok-row.was in search sourcing
