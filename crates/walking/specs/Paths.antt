-- A place in the response, as the code holds it.
use Rattle.std.specs.Prelude.{List, [], ◌∷◌, ◌++◌, map, cond, ℕ, ◌-◌, take, ltb}
use Rattle.codes.specs.Errors.{number_of}
use Rattle.codes.specs.declared.errors.FieldError.{FieldError}
use Rattle.graphql.specs.Run.{Segment, name, index, ErrorRecord}
use Rattle.walking.specs.declared.path.Path.{Path}

-- A name has a number below 4096; an index is held as 4096 and itself.
abbrev pub segment_of : ℕ → Segment
segment_of w = cond (ltb w 4096) (name w) (index (w - 4096))

-- the segments that are counted
abbrev pub path_of : Path → List Segment
path_of p = map segment_of (take p.count p.segments)

-- the record of an error at the place `last` below a path
abbrev pub error_at : FieldError → (place : ℕ) → Path → (last : ℕ) → ErrorRecord
error_at error place path last = record { code = number_of error; place = place; path = path_of path ++ (segment_of last ∷ []) }
