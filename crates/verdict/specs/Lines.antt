-- Where a line of a text ends, and which is the line of a number.
use Rattle.std.specs.Prelude.{ℕ, zero, suc, ◌≤◌, ◌<◌, ◌≡◌, ◌==◌, cond, List, [], ◌∷◌, length, get_or}

-- r is the place of the first line feed from `from` on, and the text's end where there is none
pub record LineEnd (text : List ℕ) (from r : ℕ) : Type 0 where
  pub inside : (k : ℕ) → from ≤ k → k < r → get_or text k 0 ≡ 10 → ⊥
  pub ended : r < length text → get_or text r 0 ≡ 10

-- the line of this number, counted from 0, without the line feed that ends it; empty where the text has no such line
abbrev pub line_of : List ℕ → ℕ → List ℕ
line_of [] number = []
line_of (b ∷ text) zero = cond (b == 10) [] (b ∷ line_of text zero)
line_of (b ∷ text) (suc number) = cond (b == 10) (line_of text number) (line_of text (suc number))
