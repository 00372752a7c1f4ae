-- In lawful tables the selections of a set are few, and so are the members of a type and the fragments. Assumes nothing.
use mathlib.Core.Path.{◌≡◌}
use mathlib.Core.Bool.{true}
use Prim.Native.Nat.{ℕ}
use mathlib.Core.List.{List}
use lib.ListN.{length}
use Rattle.tables.specs.Tables.{Tables}
use Rattle.tables.specs.Lawful.{lawful}
use Rattle.tables.proofs.Facts.{few_fragments}
use Rattle.lookup.proofs.Members.{listed}
use Rattle.lookup.proofs.Sets.{range_few}
use Rattle.codes.specs.Outcome.{most_collected}
use Rattle.collecting.specs.Collecting.{Collectable}

module _ (T : Tables) (h : lawful T ≡ true) where
  pub collectable : (list : List ℕ) → length list ≡ most_collected → Collectable T.types T.sets T.fragments list
  collectable list e = record { listed = listed T h; within = range_few T h; few = few_fragments T h; room = e }
