-- Strings: parts of the byte pool.
use Rattle.std.specs.Prelude.{List, [], ◌∷◌, Bool, true, false, ◌&&◌, ℕ, take, drop, eqb}
use Rattle.rows.specs.declared.strings.Text.{Text}

-- the bytes of a string
abbrev pub text_of : List ℕ → Text → List ℕ
text_of pool text = take text.len (drop text.start pool)

-- the same bytes
unfoldable pub same : List ℕ → List ℕ → Bool
same [] [] = true
same [] (b ∷ bs) = false
same (a ∷ rest) [] = false
same (a ∷ rest) (b ∷ bs) = eqb a b && same rest bs
