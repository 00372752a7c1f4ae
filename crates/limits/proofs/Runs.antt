-- The runs at the limits are right: the definition computes each, kind by kind, since one computation may not go on without end; and what
-- is right in two tables is right in both together. Assumes nothing.
use mathlib.Core.Path.{◌≡◌, refl}
use mathlib.Core.Bool.{Bool, true, false, ◌&&◌}
use mathlib.Core.List.{List, [], ◌∷◌, ◌++◌}
use Rattle.graphql.specs.Kit.{Case, right, all_right}
use Rattle.graphql.proofs.Computing.{computing}
use Rattle.limits.specs.Runs.{buffer_runs, path_runs, container_runs, collection_runs, limit_runs}

-- ---- kind by kind

buffers_right : all_right buffer_runs ≡ true
unfolding computing
buffers_right = refl

paths_right : all_right path_runs ≡ true
unfolding computing
paths_right = refl

containers_right : all_right container_runs ≡ true
unfolding computing
containers_right = refl

collections_right : all_right collection_runs ≡ true
unfolding computing
collections_right = refl

-- ---- together

and_then : (a b c : Bool) → (a && b) ≡ true → (b ≡ true → c ≡ true) → (a && c) ≡ true
and_then true b c both rest = rest both
and_then false b c both rest = both

pub right_++ : (a b : List Case) → all_right a ≡ true → all_right b ≡ true → all_right (a ++ b) ≡ true
right_++ [] b first second = second
right_++ (c ∷ a) b first second = and_then (right c) (all_right a) (all_right (a ++ b)) first (λ rest. right_++ a b rest second)

pub limits_right : all_right limit_runs ≡ true
limits_right =
    right_++ buffer_runs (path_runs ++ (container_runs ++ collection_runs)) buffers_right
    (right_++ path_runs (container_runs ++ collection_runs) paths_right (right_++ container_runs collection_runs containers_right collections_right))
