-- What the row of a group says to who reads it: its definition, and the groups by number. Assumes nothing.
use mathlib.Core.Path.{◌≡◌, refl}
use mathlib.Core.Bool.{Bool, true, false, cond}
use mathlib.Core.List.{List, [], ◌∷◌, ◌++◌}
use Rattle.std.specs.Prelude.{Option, Some, None}
use Prim.Native.Nat.{ℕ, zero, suc, ◌+◌, ◌-◌, ◌≤◌, ◌<◌}
use native.Mathlib.Omega.{arith}
use lib.Dec.{eqb}
use lib.ListN.{length, get_or}
use Rattle.rows.specs.Document.{field_selection}
use Rattle.graphql.specs.Collect.{Group, grouped}
use Rattle.graphql.specs.Request.{Request}
use Rattle.graphql.specs.Complete.{Definition, typename, defined, definition_of}
use Rattle.collecting.specs.Collecting.{groups_of}
use Rattle.planning.specs.Plans.{group_count, group_at, tabled, groups_at, definition_code, schema}

-- only two of the tables matter
pub definition_of_lem : (Q : Request) (type n : ℕ) → definition_of (schema Q.tables.types Q.tables.fields) type n ≡ definition_of Q type n
unfolding definition_of
definition_of_lem Q type n = refl

-- ---- the word of a definition, read

module _ {own : ℕ} where
  pub undefined_is : (definition : Option Definition) → own ≡ definition_code definition → own ≡ 0 → definition ≡ None
  unfolding definition_code
  undefined_is None e z = refl
  undefined_is (Some typename) e z = absurd (omega arith)
  undefined_is (Some (defined f)) e z = absurd (omega arith)

  pub typename_is : (definition : Option Definition) → own ≡ definition_code definition → own ≡ 1 → definition ≡ Some typename
  unfolding definition_code
  typename_is None e z = absurd (omega arith)
  typename_is (Some typename) e z = refl
  typename_is (Some (defined f)) e z = absurd (omega arith)

  pub defined_is : (definition : Option Definition) → own ≡ definition_code definition → 2 ≤ own → definition ≡ Some (defined (own - 2))
  unfolding definition_code
  defined_is None e l = absurd (omega arith)
  defined_is (Some typename) e l = absurd (omega arith)
  defined_is (Some (defined f)) e l = let s : own - 2 ≡ f = omega arith in rw s

-- ---- the groups by number

tabled_length : (f : ℕ → Group) (first n : ℕ) → length (tabled f first n) ≡ n
unfolding tabled
tabled_length f first zero = refl
tabled_length f first (suc n) = rw (tabled_length f (suc first) n)

tabled_get : (f : ℕ → Group) (first n i : ℕ) (z : Group) → i < n → get_or (tabled f first n) i z ≡ f (first + i)
unfolding tabled
tabled_get f first zero i z l = absurd (omega arith)
tabled_get f first (suc n) zero z l = let e : first + zero ≡ first = omega arith in rw e
tabled_get f first (suc n) (suc i) z l =
    let e : first + suc i ≡ suc first + i = omega arith in
    rw e (tabled_get f (suc first) n i z (omega arith))

module _ (selections plans : List ℕ) (plan : ℕ) where
  pub groups_length : length (groups_at selections plans plan) ≡ group_count plans plan
  groups_length = tabled_length (group_at selections plans plan) 0 (group_count plans plan)

  pub groups_get : (group : ℕ) (z : Group) → group < group_count plans plan
      → get_or (groups_at selections plans plan) group z ≡ group_at selections plans plan group
  groups_get group z l =
      let e : 0 + group ≡ group = omega arith in
      rw e at (tabled_get (group_at selections plans plan) 0 (group_count plans plan) group z l)

-- ---- No more groups than fields

grouped_few : (key row : ℕ) (gs : List Group) → length (grouped key row gs) ≤ suc (length gs)
unfolding grouped
grouped_few key row [] = omega arith
grouped_few key row (g ∷ gs) = go (eqb g.key key) (grouped_few key row gs)
  where
    go : (b : Bool) → length (grouped key row gs) ≤ suc (length gs)
        → length (cond b (record { key = g.key; first = g.first; more = g.more ++ (row ∷ []) } ∷ gs) (g ∷ grouped key row gs)) ≤ suc (suc (length gs))
    go true h = omega arith
    go false h = omega arith

pub groups_few : (selections : List ℕ) (groups : List Group) (rows : List ℕ) → length (groups_of selections groups rows) ≤ length groups + length rows
unfolding groups_of
groups_few selections groups [] = omega arith
groups_few selections groups (row ∷ rows) =
    let a = groups_few selections (grouped (field_selection selections row).key row groups) rows in
    let b = grouped_few (field_selection selections row).key row groups in
    omega (arith, a, b)
