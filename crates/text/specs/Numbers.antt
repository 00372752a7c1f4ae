-- The grammar of numbers of RFC 8259, section 6, and the floats among them: those with a fraction or an exponent.
-- Nothing that may follow digits begins with a digit, so each part takes as many digits as there are.
use Rattle.std.specs.Prelude.{Bool, cond, ◌&&◌, ◌||◌, List, [], ◌∷◌, ℕ, eqb}
use Rattle.std.specs.Prelude.{Option, Some}
use Rattle.text.specs.Grammar.{◌to◌, ◌∈◌, if_some, one, and_then, or_else, optional, is_there, is_end}

-- DIGIT = %x30-39
abbrev pub DIGIT : ℕ → Bool
DIGIT c = c ∈ (0x30 to 0x39)

-- *DIGIT
unfoldable pub digits : List ℕ → List ℕ
digits [] = []
digits (c ∷ s) = cond (DIGIT c) (digits s) (c ∷ s)

-- 1*DIGIT
unfoldable pub digits1 : List ℕ → Option (List ℕ)
digits1 s = and_then (one DIGIT s) (λ t. Some (digits t))

-- decimal-point = %x2E
unfoldable pub decimal_point : List ℕ → Option (List ℕ)
decimal_point = one (λ c. eqb c 0x2E)

-- digit1-9 = %x31-39
unfoldable pub digit1_9 : List ℕ → Option (List ℕ)
digit1_9 = one (λ c. c ∈ (0x31 to 0x39))

-- e = %x65 / %x45
abbrev pub is_e : ℕ → Bool
is_e c = eqb c 0x65 || eqb c 0x45

unfoldable pub e : List ℕ → Option (List ℕ)
e = one is_e

-- minus = %x2D
unfoldable pub minus : List ℕ → Option (List ℕ)
minus = one (λ c. eqb c 0x2D)

-- plus = %x2B
unfoldable pub plus : List ℕ → Option (List ℕ)
plus = one (λ c. eqb c 0x2B)

-- zero = %x30
unfoldable pub zero : List ℕ → Option (List ℕ)
zero = one (λ c. eqb c 0x30)

-- int = zero / ( digit1-9 *DIGIT )
unfoldable pub int : List ℕ → Option (List ℕ)
int s = or_else (zero s) (and_then (digit1_9 s) (λ t. Some (digits t)))

-- frac = decimal-point 1*DIGIT
unfoldable pub frac : List ℕ → Option (List ℕ)
frac s = and_then (decimal_point s) digits1

-- minus / plus
unfoldable pub sign : List ℕ → Option (List ℕ)
sign s = or_else (minus s) (plus s)

-- exp = e [ minus / plus ] 1*DIGIT
unfoldable pub exp : List ℕ → Option (List ℕ)
exp s = and_then (e s) (λ t. digits1 (optional sign t))

-- What follows int in a number: [ frac ] [ exp ], up to the end, of which a float has at least one.
unfoldable pub frac_or_exp : List ℕ → Bool
frac_or_exp s = is_end (optional exp (optional frac s)) && (is_there (frac s) || is_there (exp (optional frac s)))

-- number = [ minus ] int [ frac ] [ exp ], with a fraction or an exponent
unfoldable pub is_float : List ℕ → Bool
is_float s = if_some (int (optional minus s)) frac_or_exp
