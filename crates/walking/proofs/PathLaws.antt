-- Paths as the code holds them: what each segment says, and a path one segment further down. Assumes nothing.
use mathlib.Core.Path.{◌≡◌}
use mathlib.Core.List.{List, [], ◌∷◌, ◌++◌, map, map-append}
use Prim.Native.Nat.{ℕ, ◌+◌, ◌-◌, ◌≤◌, ◌<◌}
use native.Mathlib.Omega.{arith}
use native.Mathlib.Numerals.{add-one}
use borrow.Author.Tests.{lt-ltb, le-ltb}
use lib.ListN.{length, take, set}
use lib.Seq.{take-suc-set}
use Rattle.graphql.specs.Run.{name, index}
use Rattle.walking.specs.Paths.{segment_of}

pub segment_name : (n : ℕ) → n < 4096 → segment_of n ≡ name n
segment_name n h = rw (lt-ltb n 4096 h)

pub segment_index : (w i : ℕ) → w ≡ 4096 + i → segment_of w ≡ index i
segment_index w i e = let h : 4096 ≤ w = omega arith in let d : w - 4096 ≡ i = omega arith in rw (le-ltb w 4096 h, d)

-- the word behind those that are counted is written, and counted
pub path_below : (l : List ℕ) (n s : ℕ) → n < length l → map segment_of (take (n + 1) (set l n s)) ≡ map segment_of (take n l) ++ (segment_of s ∷ [])
path_below l n s h = rw (add-one, take-suc-set l n s h) (map-append segment_of (take n l) (s ∷ []))
