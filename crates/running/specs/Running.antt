-- Why a run is refused before its walk, and where a walk begins.
use Rattle.std.specs.Prelude.{Option, Some, None, cond, ◌&&◌, ℕ}
use Rattle.tables.specs.Tables.{Tables}
use Rattle.tables.specs.Lawful.{lawful, lawful_buffers, lawful_choices}
use Rattle.codes.specs.declared.outcome.Outcome.{Outcome}
use Rattle.codes.specs.declared.outcome.Outcome.TheVariants.{Unlawful, AsksForSchema}
use Rattle.graphql.specs.Report.{introspects}
use Rattle.walking.specs.declared.state.State.{State}

-- 1 before 2; none where there is a walk
unfoldable pub refusal_of : Tables → (choices text errors : ℕ) → Option Outcome
refusal_of T choices text errors =
    cond (lawful T && (lawful_buffers text errors && lawful_choices choices))
    (cond (introspects T.selections) (Some AsksForSchema) None)
    (Some Unlawful)

-- nothing is written, and no choice taken
abbrev pub at_start : State
at_start = record { at = 0; errs = 0; choice = 0; top = 0 }
