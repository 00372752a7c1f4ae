-- The literal names of JSON. RFC 8259, section 3: "one of the following three literal names: false null true. The literal names MUST be lowercase. No
-- other literal names are allowed."
use Rattle.std.specs.Prelude.{List, [], ◌∷◌, ℕ}

-- null
abbrev pub null_name : List ℕ
null_name = 110 ∷ 117 ∷ 108 ∷ 108 ∷ []

-- true
abbrev pub true_name : List ℕ
true_name = 116 ∷ 114 ∷ 117 ∷ 101 ∷ []

-- false
abbrev pub false_name : List ℕ
false_name = 102 ∷ 97 ∷ 108 ∷ 115 ∷ 101 ∷ []
