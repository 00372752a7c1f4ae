-- The mark of the set says whether it is free, and is set then. Assumes nothing.
use mathlib.Core.Path.{sym, ◌∙◌}
use Prim.Native.Nat.{◌≤◌, ◌<◌}
use native.Mathlib.Omega.{arith}
use Rattle.distinct.proofs.Marked.{selection_absent, selection_past, selection_marked, selection_told}
use Rattle.distinct.proofs.owners.selection_claims.Goals as goal

pub returns-in_default : goal.returns-in_default
returns-in_default c = let e = sym c.owned_set-owned.ensures ∙ c.in_default.is in
    record { value = rw e; marked = selection_absent _ _ _ c.requires e }

pub returns-in-Some-mark : goal.returns-in-Some-mark
returns-in-Some-mark c =
    let owned = sym c.owned_set-owned.ensures ∙ c.in-Some.is in
    let told = c.in-Some-mark.ensures in
    let small : c.in-Some.set < 4096 = omega (arith, told.0, c.requires.sized) in
    record { value = told.1 ∙ selection_told _ _ _ c.requires _ owned small; marked = rw told.2 (selection_marked _ _ _ c.requires _ owned small) }

pub returns-in-None : goal.returns-in-None
returns-in-None c =
    let owned = sym c.owned_set-owned.ensures ∙ c.in-Some.is in
    let past = c.in-None.ensures in
    let large : 4096 ≤ c.in-Some.set = omega (arith, past.0, c.requires.sized) in
    record { value = c.selection_owns_alone.ensures; marked = rw past.1 (selection_past _ _ _ c.requires _ owned large) }
