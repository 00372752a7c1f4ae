-- Sets below 4,096 are marked once they are owned: these are still free after so many selections and fragments.
use Rattle.std.specs.Prelude.{Bool, not, ◌&&◌, List, ℕ, eqb}
use Rattle.rows.specs.Rows.{all, cell, rows_of}
use Rattle.rows.specs.Layout.{selection_width, fragment_width}
use Rattle.rules.specs.Document.{owned_nowhere}

-- neither the operation nor one of the first n selections owns the set
unfoldable pub free_of_selections : List ℕ → ℕ → ℕ → Bool
free_of_selections selections n set = not (eqb set 0) && owned_nowhere selections set n

-- and none of the first n fragments
unfoldable pub free_of_fragments : List ℕ → List ℕ → ℕ → ℕ → Bool
free_of_fragments selections fragments n set =
    free_of_selections selections (rows_of selections selection_width) set && all (λ j. not (eqb set (cell fragments fragment_width j 2))) n
