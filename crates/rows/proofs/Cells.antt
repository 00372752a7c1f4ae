-- Where a cell stands, and the text behind a start and a length. Assumes nothing.
use mathlib.Core.Path.{◌≡◌, sym, ◌∙◌}
use mathlib.Core.List.{List}
use Prim.Native.Nat.{ℕ, suc, ◌/◌, ◌+◌, ◌*◌, ◌-◌, ◌≤◌, ◌<◌, ◌^◌}
use native.Mathlib.Nat.{le_trans, mul-le-mul_right, div-mul-le_self, suc-mul, mul-le-mul, le_of_lt}
use native.Mathlib.Omega.{arith}
use lib.ListN.{length, take, drop, length-drop, drop_of_length-le}
use lib.Seq.{take_all, take-nil}
use Rattle.rows.specs.Rows.{rows_of}

-- the product of a row number and a width is small
pub cell_small : (row width : ℕ) → row < 2 ^ 40 → width ≤ 16 → row * width ≤ 2 ^ 40 * 16
cell_small row width r w = mul-le-mul (le_of_lt r) w

-- a column of a row that is there is there
pub cell_there : (t : List ℕ) (width row column : ℕ) → column < width → row < rows_of t width → row * width + column < length t
unfolding rows_of
cell_there t width row column h l =
    let under : suc row ≤ length t / width = omega arith in
    let rows : suc row * width ≤ length t = le_trans (mul-le-mul_right width under) (div-mul-le_self (length t) width) in
    let more : row * width + width ≤ length t = rw suc-mul at rows in
    omega arith

pub text_cut : (pool : List ℕ) (start len : ℕ) → length pool - start < len → take (length pool - start) (drop start pool) ≡ take len (drop start pool)
text_cut pool start len h =
    let l : length (drop start pool) ≤ length pool - start = omega (arith, length-drop start pool) in
    let m : length (drop start pool) ≤ len = omega arith in
    take_all (length pool - start) (drop start pool) l ∙ sym (take_all len (drop start pool) m)

pub text_none : (pool : List ℕ) (start len : ℕ) → length pool < start → take 0 pool ≡ take len (drop start pool)
text_none pool start len h = rw (drop_of_length-le pool {i = start} (le_of_lt h), take-nil len)
