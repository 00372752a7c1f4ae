-- Worked examples: what the definitions of Ascii, Utf8, Names and Numbers say of a text that is written out, by computation.
use Rattle.std.specs.Prelude.{◌≡◌, refl, true, false, [], ◌∷◌}
use Rattle.text.specs.Ascii.{is_ascii}
use Rattle.text.specs.Utf8.{is_utf8, octets_after, is_boundary, character_number}
use Rattle.text.specs.Names.{is_name, all_name_continue, NameStart, NameContinue}
use Rattle.text.specs.Numbers.{is_float, frac_or_exp, int, frac, exp, sign, zero, plus, minus, e, digit1_9, decimal_point, digits, digits1}

-- ---- US-ASCII

-- DEL, the last
last_of_ascii : is_ascii (0x41 ∷ 0x7F ∷ []) ≡ true
unfolding is_ascii
last_of_ascii = refl

-- U+0080 in UTF-8
after_ascii : is_ascii (0x41 ∷ 0xC2 ∷ 0x80 ∷ []) ≡ false
unfolding is_ascii
after_ascii = refl

-- ---- UTF-8

-- the empty text
empty_text : is_utf8 [] ≡ true
unfolding is_utf8 octets_after
empty_text = refl

-- section 7, the first example: A, U+2262, U+0391, full stop
rfc_example : is_utf8 (0x41 ∷ 0xE2 ∷ 0x89 ∷ 0xA2 ∷ 0xCE ∷ 0x91 ∷ 0x2E ∷ []) ≡ true
unfolding is_utf8 octets_after
rfc_example = refl

-- after the A, after the first octet of U+2262, and at the end
boundary_between : is_boundary (0x41 ∷ 0xE2 ∷ 0x89 ∷ 0xA2 ∷ []) 1 ≡ true
boundary_between = refl

no_boundary_inside : is_boundary (0x41 ∷ 0xE2 ∷ 0x89 ∷ 0xA2 ∷ []) 2 ≡ false
no_boundary_inside = refl

boundary_at_the_end : is_boundary (0x41 ∷ 0xE2 ∷ 0x89 ∷ 0xA2 ∷ []) 4 ≡ true
boundary_at_the_end = refl

-- U+0080, the first of two octets
least_of_two : is_utf8 (0xC2 ∷ 0x80 ∷ []) ≡ true
unfolding is_utf8 octets_after
least_of_two = refl

-- U+10FFFF, the last of all
last_of_four : is_utf8 (0xF4 ∷ 0x8F ∷ 0xBF ∷ 0xBF ∷ []) ≡ true
unfolding is_utf8 octets_after
last_of_four = refl

-- U+110000
above_the_last : is_utf8 (0xF4 ∷ 0x90 ∷ 0x80 ∷ 0x80 ∷ []) ≡ false
unfolding is_utf8 octets_after
above_the_last = refl

-- section 10: NUL as C0 80
overlong_nul : is_utf8 (0xC0 ∷ 0x80 ∷ []) ≡ false
unfolding is_utf8 octets_after
overlong_nul = refl

-- NUL in three octets
overlong_three : is_utf8 (0xE0 ∷ 0x80 ∷ 0x80 ∷ []) ≡ false
unfolding is_utf8 octets_after
overlong_three = refl

-- U+D800, the first surrogate
surrogate : is_utf8 (0xED ∷ 0xA0 ∷ 0x80 ∷ []) ≡ false
unfolding is_utf8 octets_after
surrogate = refl

-- U+D7FF
before_surrogates : is_utf8 (0xED ∷ 0x9F ∷ 0xBF ∷ []) ≡ true
unfolding is_utf8 octets_after
before_surrogates = refl

-- a continuation octet by itself
stray_tail : is_utf8 (0x41 ∷ 0x80 ∷ []) ≡ false
unfolding is_utf8 octets_after
stray_tail = refl

-- two octets of three
cut_short : is_utf8 (0xE2 ∷ 0x89 ∷ []) ≡ false
unfolding is_utf8 octets_after
cut_short = refl

-- section 7, the third example: U+65E5
number_of_three : character_number (0xE6 ∷ 0x97 ∷ 0xA5 ∷ []) ≡ 0x65E5
unfolding character_number
number_of_three = refl

-- ---- Names

-- `_`
name_underscore : is_name (0x5F ∷ []) ≡ true
unfolding is_name all_name_continue NameStart NameContinue
name_underscore = refl

-- `a1`
name_digit_inside : is_name (0x61 ∷ 0x31 ∷ []) ≡ true
unfolding is_name all_name_continue NameStart NameContinue
name_digit_inside = refl

-- `1a`
name_digit_first : is_name (0x31 ∷ 0x61 ∷ []) ≡ false
unfolding is_name all_name_continue NameStart NameContinue
name_digit_first = refl

-- the empty text
name_empty : is_name [] ≡ false
unfolding is_name all_name_continue NameStart NameContinue
name_empty = refl

-- `a-b`
name_hyphen : is_name (0x61 ∷ 0x2D ∷ 0x62 ∷ []) ≡ false
unfolding is_name all_name_continue NameStart NameContinue
name_hyphen = refl

-- ---- Floats

-- `1.0`
float_fraction : is_float (0x31 ∷ 0x2E ∷ 0x30 ∷ []) ≡ true
unfolding is_float frac_or_exp int frac exp sign zero plus minus e digit1_9 decimal_point digits digits1
float_fraction = refl

-- `-0.5e+10`
float_all_parts : is_float (0x2D ∷ 0x30 ∷ 0x2E ∷ 0x35 ∷ 0x65 ∷ 0x2B ∷ 0x31 ∷ 0x30 ∷ []) ≡ true
unfolding is_float frac_or_exp int frac exp sign zero plus minus e digit1_9 decimal_point digits digits1
float_all_parts = refl

-- `1E3`
float_exponent : is_float (0x31 ∷ 0x45 ∷ 0x33 ∷ []) ≡ true
unfolding is_float frac_or_exp int frac exp sign zero plus minus e digit1_9 decimal_point digits digits1
float_exponent = refl

-- `1`
float_integer : is_float (0x31 ∷ []) ≡ false
unfolding is_float frac_or_exp int frac exp sign zero plus minus e digit1_9 decimal_point digits digits1
float_integer = refl

-- `01.0`
float_leading_zero : is_float (0x30 ∷ 0x31 ∷ 0x2E ∷ 0x30 ∷ []) ≡ false
unfolding is_float frac_or_exp int frac exp sign zero plus minus e digit1_9 decimal_point digits digits1
float_leading_zero = refl

-- `1.`
float_no_digits : is_float (0x31 ∷ 0x2E ∷ []) ≡ false
unfolding is_float frac_or_exp int frac exp sign zero plus minus e digit1_9 decimal_point digits digits1
float_no_digits = refl

-- `.5`
float_no_int : is_float (0x2E ∷ 0x35 ∷ []) ≡ false
unfolding is_float frac_or_exp int frac exp sign zero plus minus e digit1_9 decimal_point digits digits1
float_no_int = refl

-- `1e`
float_bare_exponent : is_float (0x31 ∷ 0x65 ∷ []) ≡ false
unfolding is_float frac_or_exp int frac exp sign zero plus minus e digit1_9 decimal_point digits digits1
float_bare_exponent = refl
