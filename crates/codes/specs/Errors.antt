-- The errors of document 01, "Error records": their codes, and where each is placed. Their names are declared in src/errors.rt, which the code
-- and the definition share.
use Rattle.std.specs.Prelude.{◌&&◌, ◌||◌, cond, ℕ, leb, eqb}
use Rattle.codes.specs.declared.errors.FieldError.{FieldError}
use Rattle.codes.specs.declared.errors.FieldError.TheVariants as error
use Rattle.codes.specs.declared.errors.PlaceKind.{PlaceKind}
use Rattle.codes.specs.declared.errors.PlaceKind.TheVariants.{FirstField, ArgumentDefinition, Literal}

-- "Codes: 1 resolver; 2 null for non-null; .. 24 missing argument."
abbrev pub number_of : FieldError → ℕ
number_of error.Resolver = 1
number_of error.NullForNonNull = 2
number_of error.ListTypeWithoutList = 3
number_of error.ListForNonListType = 4
number_of error.UndefinedType = 5
number_of error.InputObjectType = 6
number_of error.ObjectForLeafType = 7
number_of error.ObjectTypeUnknown = 8
number_of error.NotInUnion = 9
number_of error.NotImplementing = 10
number_of error.OtherObjectType = 11
number_of error.LeafForComposite = 12
number_of error.NotAnEnumValue = 13
number_of error.IntOverflow = 14
number_of error.LeafOfAnotherKind = 15
number_of error.NullArgument = 16
number_of error.InnerNull = 17
number_of error.NullVariable = 18
number_of error.MissingVariable = 19
number_of error.UndefinedInputType = 20
number_of error.UnknownKey = 21
number_of error.MissingInputField = 22
number_of error.CannotCoerce = 23
number_of error.MissingArgument = 24

-- "Place: argument definition for 16 and 24, the literal for 17 to 23, else the first field."
unfoldable pub place_of : ℕ → PlaceKind
place_of code = cond (eqb code 16 || eqb code 24) ArgumentDefinition (cond (leb 17 code && leb code 23) Literal FirstField)
