-- "Strings: a pool up to 65,536 bytes, each string valid UTF-8."
use Rattle.std.specs.Prelude.{List, Bool, ◌&&◌, ℕ, ◌+◌, length, leb}
use Rattle.text.specs.Utf8.{is_utf8}
use Rattle.text.specs.Numbers.{is_float}
use Rattle.rows.specs.Strings.{text_of}
use Rattle.rows.specs.declared.strings.Text.{Text}

-- the string lies inside the pool
abbrev pub in_pool : List ℕ → Text → Bool
in_pool pool text = leb (text.start + text.len) (length pool)

-- "each string valid UTF-8" (RFC 3629)
abbrev pub is_string : List ℕ → Text → Bool
is_string pool text = in_pool pool text && is_utf8 (text_of pool text)

-- "float as its RFC 8259 spelling with a fraction or exponent"
abbrev pub is_float_text : List ℕ → Text → Bool
is_float_text pool text = in_pool pool text && is_float (text_of pool text)
