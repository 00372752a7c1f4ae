-- GraphQL October 2021, section 2.1.9, Names.
use Rattle.std.specs.Prelude.{Bool, true, false, ◌&&◌, ◌||◌, List, [], ◌∷◌, ℕ, eqb}
use Rattle.text.specs.Grammar.{◌to◌, ◌∈◌}

-- Letter :: one of A .. Z, a .. z
abbrev pub Letter : ℕ → Bool
Letter c = (c ∈ (0x41 to 0x5A)) || (c ∈ (0x61 to 0x7A))

-- Digit :: one of 0 .. 9
abbrev pub Digit : ℕ → Bool
Digit c = c ∈ (0x30 to 0x39)

-- NameStart :: Letter, `_`
unfoldable pub NameStart : ℕ → Bool
NameStart c = Letter c || eqb c 0x5F

-- NameContinue :: Letter, Digit, `_`
unfoldable pub NameContinue : ℕ → Bool
NameContinue c = Letter c || (Digit c || eqb c 0x5F)

-- NameContinue list, which may be empty
unfoldable pub all_name_continue : List ℕ → Bool
all_name_continue [] = true
all_name_continue (c ∷ s) = NameContinue c && all_name_continue s

-- Name :: NameStart, then a NameContinue list. That no NameContinue follows is so at the end of the text.
unfoldable pub is_name : List ℕ → Bool
is_name [] = false
is_name (c ∷ s) = NameStart c && all_name_continue s
