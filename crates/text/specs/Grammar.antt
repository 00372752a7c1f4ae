-- What a grammar in ABNF (RFC 5234) says, of octets and of texts.
use Rattle.std.specs.Prelude.{Bool, true, false, cond, ◌&&◌, List, [], ◌∷◌, ℕ, leb}
use Rattle.std.specs.Prelude.{Option, Some, None}

-- ---- section 3.4, value ranges: %x80-BF is `0x80 to 0xBF`

infix 80 ◌to◌
infix 75 ◌∈◌
pub data Range : Type 0 where
  ◌to◌ : ℕ → ℕ → Range

-- an octet of the range, its two ends included
abbrev pub ◌∈◌ : ℕ → Range → Bool
c ∈ (low to high) = leb low c && leb c high

abbrev pub if_some : {A : Type 0} → Option A → (A → Bool) → Bool
if_some None test = false
if_some (Some a) test = test a

-- ---- A part of a grammar is what it leaves of a text: `some` of what stands behind it, and `none` where the text does not begin with it.

-- one octet of a kind
abbrev pub one : (ℕ → Bool) → List ℕ → Option (List ℕ)
one kind [] = None
one kind (c ∷ s) = cond (kind c) (Some s) None

-- section 3.1, concatenation: a part, and then another
abbrev pub and_then : Option (List ℕ) → (List ℕ → Option (List ℕ)) → Option (List ℕ)
and_then None part = None
and_then (Some s) part = part s

-- section 3.2, alternatives: part / other
abbrev pub or_else : Option (List ℕ) → Option (List ℕ) → Option (List ℕ)
or_else None other = other
or_else (Some s) other = Some s

abbrev pub rest_or : Option (List ℕ) → List ℕ → List ℕ
rest_or None s = s
rest_or (Some t) s = t

-- section 3.8, an optional part: [ part ]
abbrev pub optional : (List ℕ → Option (List ℕ)) → List ℕ → List ℕ
optional part s = rest_or (part s) s

abbrev pub is_there : Option (List ℕ) → Bool
is_there None = false
is_there (Some s) = true

abbrev pub is_end : List ℕ → Bool
is_end [] = true
is_end (c ∷ s) = false
