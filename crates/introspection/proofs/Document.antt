-- In lawful tables the sets, the selections and the fragments are few. Assumes nothing.
use mathlib.Core.Path.{◌≡◌, refl}
use mathlib.Core.Bool.{true}
use native.Mathlib.Omega.{arith}
use lib.ListN.{replicate}
use Rattle.std.specs.Prelude.{None}
use Rattle.tables.specs.Tables.{Tables}
use Rattle.tables.specs.Lawful.{lawful}
use Rattle.tables.proofs.Facts.{few_fragments}
use Rattle.lookup.proofs.Sets.{range_few}
use Rattle.introspection.specs.MaxDepth.{Walkable}

pub walkable : (T : Tables) → lawful T ≡ true → Walkable T.sets T.fragments (replicate 64 None) 0
walkable T h = record { within = range_few T h; few = few_fragments T h; marked = refl; shallow = omega arith }
