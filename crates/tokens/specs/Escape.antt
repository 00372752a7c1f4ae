-- How a string is written. RFC 8259, section 7: "A string begins and ends with quotation marks. All Unicode characters may be placed within the
-- quotation marks, except for the characters that MUST be escaped: quotation mark, reverse solidus, and the control characters (U+0000 through
-- U+001F)." Where the section allows more than one way, the shortest is taken, with hexadecimal digits in lower case.
use Rattle.std.specs.Prelude.{Option, Some, None, Bool, true, not, cond, ◌&&◌, List, [], ◌∷◌, ◌++◌, ℕ, ◌+◌, ◌/◌, ◌%◌, ltb, leb, eqb}

-- "Alternatively, there are two-character sequence escape representations of some popular characters": what stands after the reverse solidus, for
-- the characters that have one.
unfoldable pub escape_letter : ℕ → Option ℕ
escape_letter b =
    cond (eqb b 34) (Some 34)  -- quotation mark \"
    (cond (eqb b 92) (Some 92)  -- reverse solidus \\
    (cond (eqb b 8) (Some 98)  -- backspace \b
    (cond (eqb b 12) (Some 102)  -- form feed \f
    (cond (eqb b 10) (Some 110)  -- line feed \n
    (cond (eqb b 13) (Some 114)  -- carriage return \r
    (cond (eqb b 9) (Some 116) None)  -- tab \t
    )))))

-- The hexadecimal digit of a number below sixteen, in lower case: `0` is 48 and `a` is 97.
unfoldable pub hex_digit : ℕ → ℕ
hex_digit d = cond (ltb d 10) (48 + d) (87 + d)

-- "it may be represented as a six-character sequence: a reverse solidus, followed by the lowercase letter u, followed by four hexadecimal digits that
-- encode the character's code point": \u00 and two digits, for a character below 256.
abbrev pub code_point_escape : ℕ → List ℕ
code_point_escape b = 92 ∷ 117 ∷ 48 ∷ 48 ∷ hex_digit (b / 16) ∷ hex_digit (b % 16) ∷ []

-- One byte of a string: its two-character escape, or the six characters where a control character has none. Every other byte stands for itself, 127
-- and those of UTF-8 from 128 on too.
abbrev pub escaped_by : ℕ → Option ℕ → List ℕ
escaped_by b (Some letter) = 92 ∷ letter ∷ []
escaped_by b None = cond (ltb b 32) (code_point_escape b) (b ∷ [])

unfoldable pub escaped : ℕ → List ℕ
escaped b = escaped_by b (escape_letter b)

-- Whether a byte is none of "the characters that MUST be escaped: quotation mark, reverse solidus, and the control characters".
unfoldable pub is_plain : ℕ → Bool
is_plain b = leb 32 b && (not (eqb b 34) && not (eqb b 92))

unfoldable pub all_plain : List ℕ → Bool
all_plain [] = true
all_plain (b ∷ bs) = is_plain b && all_plain bs

-- The bytes of a string, one after another.
unfoldable pub escaped_all : List ℕ → List ℕ
escaped_all [] = []
escaped_all (b ∷ bs) = escaped b ++ escaped_all bs

-- "string = quotation-mark *char quotation-mark"
unfoldable pub quoted : List ℕ → List ℕ
quoted bs = 34 ∷ escaped_all bs ++ (34 ∷ [])
