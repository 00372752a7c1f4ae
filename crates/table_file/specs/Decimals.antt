-- The number that a token spells in decimal digits, or what is wrong with it: what is met first, from the left.
use Rattle.std.specs.Prelude.{ℕ, ◌+◌, ◌*◌, List, [], ◌∷◌, Result, Ok, Err, cond, nat_lt}
use Rattle.std.specs.Char.{digit_value}
use Rattle.table_file.specs.declared.fault.Fault.{Fault}
use Rattle.table_file.specs.declared.fault.Fault.TheVariants as fault

-- the digits read on, behind those that spell `value`: each has to be a digit, and the number so far to fit 64 bits
unfoldable pub digits_behind : ℕ → List ℕ → Result ℕ Fault
digits_behind value [] = Ok value
digits_behind value (b ∷ rest) =
    cond (nat_lt (digit_value b) 10)
    (cond (nat_lt (value * 10 + digit_value b) 18446744073709551616) (digits_behind (value * 10 + digit_value b) rest) (Err fault.NumberTooLarge))
    (Err fault.NotANumber)

-- a token of no digits spells no number
unfoldable pub decimal_of : List ℕ → Result ℕ Fault
decimal_of [] = Err fault.NotANumber
decimal_of (b ∷ rest) = digits_behind 0 (b ∷ rest)

-- the same of a number that is a word: it has to fit 32 bits too
abbrev pub as_word : Result ℕ Fault → Result ℕ Fault
as_word (Ok n) = cond (nat_lt n 4294967296) (Ok n) (Err fault.NumberTooLarge)
as_word (Err why) = Err why

unfoldable pub word_of : List ℕ → Result ℕ Fault
word_of token = as_word (decimal_of token)
