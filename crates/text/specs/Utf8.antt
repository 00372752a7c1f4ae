-- UTF-8, as RFC 3629 defines it.
use Rattle.std.specs.Prelude.{Bool, true, false, cond, not, ◌&&◌, List, [], ◌∷◌, ◌++◌, ℕ, ◌+◌, ◌-◌, ◌*◌, ◌%◌, ◌^◌, ◌≤◌, ◌<◌, leb, eqb, get_or}
use Rattle.std.specs.Prelude.{Option, Some, None}
use Rattle.text.specs.Grammar.{Range, ◌to◌, ◌∈◌, if_some}

-- ---- Section 4, the ABNF

infix 50 ◌▹◌
-- a sequence of octets in the ABNF: the range of the first, and those of the others
pub data Form : Type 0 where
  ◌▹◌ : Range → List Range → Form

-- UTF8-tail = %x80-BF
abbrev pub UTF8-tail : Range
UTF8-tail = 0x80 to 0xBF

-- UTF8-1 = %x00-7F
abbrev pub UTF8-1 : List Form
UTF8-1 = (0x00 to 0x7F ▹ []) ∷ []

-- UTF8-2 = %xC2-DF UTF8-tail
abbrev pub UTF8-2 : List Form
UTF8-2 = (0xC2 to 0xDF ▹ UTF8-tail ∷ []) ∷ []

-- UTF8-3 = %xE0 %xA0-BF UTF8-tail / %xE1-EC 2( UTF8-tail ) / %xED %x80-9F UTF8-tail / %xEE-EF 2( UTF8-tail )
abbrev pub UTF8-3 : List Form
UTF8-3 =
    (0xE0 to 0xE0 ▹ 0xA0 to 0xBF ∷ UTF8-tail ∷ []) ∷
    (0xE1 to 0xEC ▹ UTF8-tail ∷ UTF8-tail ∷ []) ∷
    (0xED to 0xED ▹ 0x80 to 0x9F ∷ UTF8-tail ∷ []) ∷
    (0xEE to 0xEF ▹ UTF8-tail ∷ UTF8-tail ∷ []) ∷
    []

-- UTF8-4 = %xF0 %x90-BF 2( UTF8-tail ) / %xF1-F3 3( UTF8-tail ) / %xF4 %x80-8F 2( UTF8-tail )
abbrev pub UTF8-4 : List Form
UTF8-4 =
    (0xF0 to 0xF0 ▹ 0x90 to 0xBF ∷ UTF8-tail ∷ UTF8-tail ∷ []) ∷
    (0xF1 to 0xF3 ▹ UTF8-tail ∷ UTF8-tail ∷ UTF8-tail ∷ []) ∷
    (0xF4 to 0xF4 ▹ 0x80 to 0x8F ∷ UTF8-tail ∷ UTF8-tail ∷ []) ∷
    []

-- UTF8-char = UTF8-1 / UTF8-2 / UTF8-3 / UTF8-4
abbrev pub UTF8-char : List Form
UTF8-char = UTF8-1 ++ (UTF8-2 ++ (UTF8-3 ++ UTF8-4))

-- The ranges of the octets that follow the first octet a in a sequence of one of these forms. No two forms of UTF8-char
-- share a first octet, so there is at most one.
abbrev pub following : List Form → ℕ → Option (List Range)
following [] a = None
following ((first ▹ others) ∷ forms) a = cond (a ∈ first) (Some others) (following forms a)

-- Whether the octets are the rest of a UTF8-char, which lies in these ranges, and then any number of whole ones.
unfoldable pub octets_after : List ℕ → List Range → Bool
octets_after [] [] = true
octets_after [] (range ∷ ranges) = false
octets_after (a ∷ s) [] = if_some (following UTF8-char a) (octets_after s)
octets_after (b ∷ s) (range ∷ ranges) = (b ∈ range) && octets_after s ranges

-- UTF8-octets = *( UTF8-char )
unfoldable pub is_utf8 : List ℕ → Bool
is_utf8 s = octets_after s []

-- A position at which no continuation octet stands: where a character begins, or the text ends.
abbrev pub is_boundary : List ℕ → ℕ → Bool
is_boundary s at = not (get_or s at 0 ∈ UTF8-tail)

-- ---- Section 3, the octet sequences of the characters

-- How many octets a sequence of more than one has, by its first octet: 110xxxxx, 1110xxxx and 11110xxx. 0 stands for every octet
-- that no such sequence begins with.
pub data Leads (a : ℕ) : ℕ → Type 0 where
  two : 0xC0 ≤ a → a < 0xE0 → Leads a 2
  three : 0xE0 ≤ a → a < 0xF0 → Leads a 3
  four : 0xF0 ≤ a → a < 0xF8 → Leads a 4
  single : a < 0xC0 → Leads a 0
  beyond : 0xF8 ≤ a → Leads a 0

-- the bits of the first octet that are marked x, in a sequence of n octets, of which n is 2, 3 or 4
abbrev pub lead_bits : ℕ → ℕ → ℕ
lead_bits n a = a % 2 ^ (7 - n)

-- the first character number of the table's row for n octets, of which n is 2, 3 or 4
abbrev pub least_for : ℕ → ℕ
least_for n = cond (eqb n 2) 0x80 (cond (eqb n 3) 0x800 0x10000)

-- The character numbers that n octets may spell: none of an earlier row, none of D800 to DFFF, "reserved for use with
-- the UTF-16 encoding form", and none above 10FFFF.
unfoldable pub allowed : ℕ → ℕ → Bool
allowed n p = leb (least_for n) p && (not (p ∈ (0xD800 to 0xDFFF)) && leb p 0x10FFFF)

-- The character number of a sequence: the bits of its octets that the table marks x, in the order of the octets. No
-- sequence is empty or has more than four octets.
unfoldable pub character_number : List ℕ → ℕ
character_number [] = 0
character_number (a ∷ []) = a
character_number (a ∷ b ∷ []) = a % 0x20 * 0x40 + b % 0x40
character_number (a ∷ b ∷ c ∷ []) = (a % 0x10 * 0x40 + b % 0x40) * 0x40 + c % 0x40
character_number (a ∷ b ∷ c ∷ d ∷ s) = ((a % 0x08 * 0x40 + b % 0x40) * 0x40 + c % 0x40) * 0x40 + d % 0x40
