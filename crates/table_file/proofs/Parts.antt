-- What `get` gives of a range, or else what stands for it, is a part as far as it is there. Assumes nothing.
use Prim.Native.Nat.{ℕ, ◌-◌, ◌≤◌}
use mathlib.Core.Path.{◌≡◌}
use mathlib.Core.List.{List, []}
use native.Mathlib.Nat.{sub-zero}
use native.Mathlib.Omega.{arith}
use lib.ListN.{length, take, drop}
use denote.Bor.{Bor}
use Rattle.std.specs.Prelude.{Option, Some, None}
use Rattle.std.specs.List.{PartBy}
use Rattle.std.specs.Option.{unwrap_or}
use Rattle.std.proofs.Common.{inl, inr}
use Rattle.std.proofs.lemmas.List.{take_all, drop_all, length-drop}

-- the first n items, or all
pub front_or_all :
    (xs : List ℕ) (n : ℕ) (o : Option (Bor (List ℕ))) (d r : Bor (List ℕ)) → r ≡ unwrap_or o d → d.now ≡ xs
    → PartBy (λ (x : Bor (List ℕ)). x.now) xs 0 n o → r.now ≡ take n xs
front_or_all xs n None d r f e (inl h, _) = absurd (omega arith)
front_or_all xs n None d r f e (inr h, _) = let l : length xs ≤ n = omega arith in rw (f, e, take_all n xs l)
front_or_all xs n (Some x) d r f e p = rw (f, p.0.2, sub-zero n)

-- the items from n on, or none
pub rest_or_none :
    (xs : List ℕ) (n : ℕ) (o : Option (Bor (List ℕ))) (d r : Bor (List ℕ)) → r ≡ unwrap_or o d → d.now ≡ []
    → PartBy (λ (x : Bor (List ℕ)). x.now) xs n (length xs) o → r.now ≡ drop n xs
rest_or_none xs n None d r f e (inl h, _) = let l : length xs ≤ n = omega arith in rw (f, e, drop_all n xs l)
rest_or_none xs n None d r f e (inr h, _) = absurd (omega arith)
rest_or_none xs n (Some x) d r f e p =
    let l : length (drop n xs) ≤ length xs - n = omega (arith, length-drop n xs) in
    rw (f, p.0.2) (take_all (length xs - n) (drop n xs) l)
