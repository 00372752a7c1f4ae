-- The definitions of JSON's tokens, at work. A text is a list of bytes: 34 is the quotation mark, 92 the reverse solidus, 48 the digit 0.
use Rattle.std.specs.Prelude.{◌≡◌, refl, [], ◌∷◌}
use Rattle.tokens.specs.Decimal.{decimal, decimal_within}
use Rattle.tokens.specs.Escape.{escape_letter, hex_digit, escaped, escaped_all, quoted}

-- ---- strings

-- nothing: ""
empty_string : quoted [] ≡ 34 ∷ 34 ∷ []
unfolding escaped_all quoted
empty_string = refl

-- a"b: "a\"b"
quotation_mark : quoted (97 ∷ 34 ∷ 98 ∷ []) ≡ 34 ∷ 97 ∷ 92 ∷ 34 ∷ 98 ∷ 34 ∷ []
unfolding escape_letter escaped escaped_all quoted
quotation_mark = refl

-- the reverse solidus is doubled, and the solidus stands for itself: "\\/"
solidi : quoted (92 ∷ 47 ∷ []) ≡ 34 ∷ 92 ∷ 92 ∷ 47 ∷ 34 ∷ []
unfolding escape_letter escaped escaped_all quoted
solidi = refl

-- byte 0: "\u0000"
lowest_control : quoted (0 ∷ []) ≡ 34 ∷ 92 ∷ 117 ∷ 48 ∷ 48 ∷ 48 ∷ 48 ∷ 34 ∷ []
unfolding escape_letter hex_digit escaped escaped_all quoted
lowest_control = refl

-- byte 31: "\u001f"
highest_control : quoted (31 ∷ []) ≡ 34 ∷ 92 ∷ 117 ∷ 48 ∷ 48 ∷ 49 ∷ 102 ∷ 34 ∷ []
unfolding escape_letter hex_digit escaped escaped_all quoted
highest_control = refl

-- bytes 8, 9, 10, 12 and 13: "\b\t\n\f\r"
popular_controls : quoted (8 ∷ 9 ∷ 10 ∷ 12 ∷ 13 ∷ []) ≡ 34 ∷ 92 ∷ 98 ∷ 92 ∷ 116 ∷ 92 ∷ 110 ∷ 92 ∷ 102 ∷ 92 ∷ 114 ∷ 34 ∷ []
unfolding escape_letter escaped escaped_all quoted
popular_controls = refl

-- bytes 32, 127 and 200 stand for themselves
as_they_stand : quoted (32 ∷ 127 ∷ 200 ∷ []) ≡ 34 ∷ 32 ∷ 127 ∷ 200 ∷ 34 ∷ []
unfolding escape_letter escaped escaped_all quoted
as_they_stand = refl

-- ---- numbers

nought : decimal 0 ≡ 48 ∷ []
unfolding decimal decimal_within
nought = refl

nine : decimal 9 ≡ 57 ∷ []
unfolding decimal decimal_within
nine = refl

ten : decimal 10 ≡ 49 ∷ 48 ∷ []
unfolding decimal decimal_within
ten = refl

two_to_the_twelfth : decimal 4096 ≡ 52 ∷ 48 ∷ 57 ∷ 54 ∷ []
unfolding decimal decimal_within
two_to_the_twelfth = refl

-- the largest number of 64 bits
largest : decimal 18446744073709551615 ≡ 49 ∷ 56 ∷ 52 ∷ 52 ∷ 54 ∷ 55 ∷ 52 ∷ 52 ∷ 48 ∷ 55 ∷ 51 ∷ 55 ∷ 48 ∷ 57 ∷ 53 ∷ 53 ∷ 49 ∷ 54 ∷ 49 ∷ 53 ∷ []
unfolding decimal decimal_within
largest = refl
