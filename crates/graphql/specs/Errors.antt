-- An error as an event of a run: its code and its place are those that `codes` gives. Read it after Run.
use Rattle.std.specs.Prelude.{ℕ}
use Rattle.codes.specs.Errors.{number_of, place_of}
use Rattle.codes.specs.declared.errors.FieldError.{FieldError}
use Rattle.codes.specs.declared.errors.PlaceKind.{PlaceKind}
use Rattle.codes.specs.declared.errors.PlaceKind.TheVariants.{FirstField, ArgumentDefinition, Literal}
use Rattle.graphql.specs.Run.{Path, Event, err}

-- the place of an error of this kind, where its first field, its argument's definition and its literal stand at these places
unfoldable pub place_among : PlaceKind → (field definition literal : ℕ) → ℕ
place_among FirstField field definition literal = field
place_among ArgumentDefinition field definition literal = definition
place_among Literal field definition literal = literal

-- An error, with the places that are at hand there: 0 for the others, which no error of that code has.
unfoldable pub error_of : FieldError → (field definition literal : ℕ) → Path → Event
error_of e field definition literal p =
    err (record { code = number_of e; place = place_among (place_of (number_of e)) field definition literal; path = p })
