-- The mark of the set says whether it is free, and is set then. Assumes nothing.
use mathlib.Core.Path.{◌∙◌}
use Prim.Native.Nat.{◌≤◌, ◌<◌}
use native.Mathlib.Omega.{arith}
use Rattle.distinct.proofs.Marked.{fragment_past, fragment_marked, fragment_told}
use Rattle.distinct.proofs.owners.fragment_claims.Goals as goal

pub returns-in-Some : goal.returns-in-Some
returns-in-Some c =
    let told = c.in-Some.ensures in
    let small : c.fragment_at-fragment.result.set < 4096 = omega (arith, told.0, c.requires.sized) in
    record {
      value = told.1 ∙ rw c.fragment_at-fragment.ensures (fragment_told _ _ _ _ c.requires (rw c.fragment_at-fragment.ensures at small));
      marked = rw told.2 (rw c.fragment_at-fragment.ensures (fragment_marked _ _ _ _ c.requires (rw c.fragment_at-fragment.ensures at small)));
    }

pub returns-in-None : goal.returns-in-None
returns-in-None c =
    let past = c.in-None.ensures in
    let large : 4096 ≤ c.fragment_at-fragment.result.set = omega (arith, past.0, c.requires.sized) in
    record { value = c.fragment_owns_alone.ensures; marked = rw past.1 (fragment_past _ _ _ _ c.requires (rw c.fragment_at-fragment.ensures at large)) }
