-- A natural number in base ten. RFC 8259, section 6: "A number is represented in base 10 using decimal digits. .. Leading zeros are not allowed."
use Rattle.std.specs.Prelude.{Bool, true, false, List, [], ◌∷◌, ◌++◌, ℕ, zero, suc, ◌+◌, ◌/◌, ◌%◌, ltb}

-- The character of a digit below ten: `0` is 48.
abbrev pub digit : ℕ → ℕ
digit d = 48 + d

-- The digits of n: its own where it is below ten, which the test says, else those of n / 10 and then the last. The first number only has to be large
-- enough: it bounds how often n is divided.
unfoldable pub decimal_within : ℕ → ℕ → Bool → List ℕ
decimal_within zero n small = digit n ∷ []
decimal_within (suc divisions) n true = digit n ∷ []
decimal_within (suc divisions) n false = decimal_within divisions (n / 10) (ltb (n / 10) 10) ++ (digit (n % 10) ∷ [])

-- The digits of n, without leading zeros. Dividing by ten n times is more than enough; `DecimalLaws` has the two equations without such a bound.
unfoldable pub decimal : ℕ → List ℕ
decimal n = decimal_within n n (ltb n 10)

-- The four digits of a number below 10,000, with zeros in front.
abbrev pub four_digits : ℕ → List ℕ
four_digits n = digit (n / 1000) ∷ digit (n / 100 % 10) ∷ digit (n / 10 % 10) ∷ digit (n % 10) ∷ []

-- The eight digits of a number below 100,000,000, with zeros in front.
abbrev pub eight_digits : ℕ → List ℕ
eight_digits n = four_digits (n / 10000) ++ four_digits (n % 10000)
