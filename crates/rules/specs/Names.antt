-- "Names, 12 to 512: 1 to 64 bytes, `[_A-Za-z][_0-9A-Za-z]*`, no two equal. Names 0 to 11 are `__typename`, `Int`, `Float`,
-- `String`, `Boolean`, `ID`, `__schema`, `__type`, `fields`, `interfaces`, `possibleTypes`, `inputFields`."
use Rattle.std.specs.Prelude.{List, Bool, true, not, ◌&&◌, ℕ, leb}
use Rattle.std.specs.Prelude.{Option, Some, None}
use Prim.Native.String.{String}
use Rattle.std.specs.Prelude.{slice_get}
use Rattle.text.specs.Names.{is_name}
use Rattle.rows.specs.Ascii.{ascii}
use Rattle.rows.specs.Limits.{least_name_bytes, most_name_bytes}
use Rattle.rows.specs.Rows.{all}
use Rattle.rows.specs.Strings.{text_of, same}
use Rattle.rows.specs.Names.{name_at, name_text, reserved}
use Rattle.rules.specs.Strings.{in_pool}

-- "1 to 64 bytes, `[_A-Za-z][_0-9A-Za-z]*`"
unfoldable pub name_spelled : List ℕ → List ℕ → ℕ → Bool
name_spelled pool names row =
    let name = name_at names row in
    in_pool pool name && ((leb least_name_bytes name.len && leb name.len most_name_bytes) && is_name (text_of pool name))

-- "Names 0 to 11 are ..": whether these bytes may stand at this row
abbrev pub spelled_as : Option String → List ℕ → Bool
spelled_as None name = true
spelled_as (Some s) name = same name (ascii s)

abbrev pub reserved_as : ℕ → List ℕ → Bool
reserved_as row name = spelled_as (slice_get reserved row) name

abbrev pub name_reserved : List ℕ → List ℕ → ℕ → Bool
name_reserved pool names row = reserved_as row (name_text pool names row)

-- "no two equal": this one equals none before it
abbrev pub other_name : List ℕ → List ℕ → ℕ → ℕ → Bool
other_name pool names one two = not (same (name_text pool names one) (name_text pool names two))

unfoldable pub name_new : List ℕ → List ℕ → ℕ → Bool
name_new pool names row = all (other_name pool names row) row
