-- What a function that gives the same each time leaves of a buffer, from a position on. Assumes nothing.
use mathlib.Core.Path.{◌≡◌, refl, ◌∙◌}
use mathlib.Core.List.{List, [], ◌∷◌, append-nil}
use Prim.Native.Nat.{ℕ, ◌-◌, ◌≤◌}
use native.Mathlib.Omega.{arith}
use lib.ListN.{length, take, drop, replicate, length-take, length-drop, drop_of_length-le}
use Rattle.std.specs.List.{FoldsTo}
use borrow.Rule.Slice.PartMut.{put_mid}
use Rattle.writing.specs.Wrote.{filled_from}

-- a list of results that are all the same
same_results : {A F : Type 0} (step : F → A → F → Type 0) (blank : A) → ((f g : F) (x : A) → step f x g → x ≡ blank) → (xs : List A) (f g : F)
    → FoldsTo step f xs g → xs ≡ replicate (length xs) blank
same_results step blank h [] f g ran = refl
same_results step blank h (x ∷ xs) f g ran =
    let here : x ≡ blank = h f ran.0 x ran.1 in
    let later : xs ≡ replicate (length xs) blank = same_results step blank h xs ran.0 g ran.2 in
    λ i. here i ∷ later i

-- a buffer whose part behind the position is such a list
pub filled : {A F : Type 0} (step : F → A → F → Type 0) (blank : A) → ((f g : F) (x : A) → step f x g → x ≡ blank)
    → (t part : List A) (from : ℕ) (f g : F) → from ≤ length t → length part ≡ length (take (length t - from) (drop from t)) → FoldsTo step f part g
    → put_mid from (length t - from) t part ≡ filled_from blank from t
filled step blank h t part from f g inside long ran =
    let size : length part ≡ length t - from = long ∙ simp length-take (simp length-drop (omega arith)) in
    let over : drop (length t - from) (drop from t) ≡ [] = drop_of_length-le (drop from t) (simp length-drop (omega arith)) in
    rw (over, append-nil, same_results step blank h part f g ran, size) refl
