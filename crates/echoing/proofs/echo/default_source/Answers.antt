-- There is a default or none. Assumes nothing.
use Rattle.echoing.proofs.Sources.{default_mapped}
use Rattle.echoing.proofs.echo.default_source.Goals as goal

pub returns : goal.returns
returns c = default_mapped _ _ c.map.ensures.cases
