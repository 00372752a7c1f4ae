-- US-ASCII (RFC 3629, section 1): "Character numbers from U+0000 to U+007F (US-ASCII repertoire) correspond to octets 00 to 7F".
use Rattle.std.specs.Prelude.{Bool, true, ◌&&◌, List, [], ◌∷◌, ℕ, ltb}

-- every octet is one of US-ASCII
unfoldable pub is_ascii : List ℕ → Bool
is_ascii [] = true
is_ascii (a ∷ s) = ltb a 0x80 && is_ascii s
