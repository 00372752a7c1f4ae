-- A collection that begins with nothing comes to the groups of the selection set. Assumes nothing.
use mathlib.Core.Path.{◌≡◌, ◌∙◌}
use mathlib.Core.List.{List}
use Prim.Native.Nat.{ℕ}
use lib.ListN.{length}
use Rattle.rows.specs.declared.layout.Range.{Range}
use Rattle.codes.specs.Outcome.{most_open, most_collected}
use Rattle.graphql.specs.Run.{M, pure, onward, ◌>>=◌}
use Rattle.graphql.specs.Lookup.{rows_in}
use Rattle.graphql.specs.Collect.{Collected, none_yet, collect}
use Rattle.std.specs.Prelude.{Ok, Err}
use Rattle.collecting.specs.Collecting.{Collecting, Comes, Groups, rows_done, CollectsRows}
use Rattle.collecting.proofs.Shown.{shows_none}
use Rattle.collecting.proofs.Ends.{went}

module _ (types members sets selections fragments nodes variables : List ℕ) (object : ℕ) (rows : Range) where
  abbrev fields : M Collected
  fields = rows_done types members sets selections fragments nodes variables most_open object (rows_in rows) none_yet

  pub grouped_by : {list list' : List ℕ} {r : Collecting} → length list ≡ most_collected
      → CollectsRows types members sets selections fragments nodes variables most_open object rows list (record { visited = 0; count = 0 }) r list'
      → Groups selections (collect types members sets selections fragments variables nodes object (rows_in rows)) r list'
  unfolding collect ◌>>=◌ onward pure
  grouped_by {list' = after} {r = result} e q = go result (q.collects none_yet (shows_none selections fragments e))
    where
      go : (r : Collecting) → Comes selections fragments fields r after
          → Groups selections (collect types members sets selections fragments variables nodes object (rows_in rows)) r after
      go (Ok g) h = λ k. went fields (λ c. pure c.groups) h.collected k (h.is k) ∙ rw h.shows.groups
      go (Err o) h = λ k. rw (h k)
