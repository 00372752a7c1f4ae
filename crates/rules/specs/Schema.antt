-- What document 01 asks of the schema's tables. Of tables other than the row's own it matters only how many rows they have: here
-- `names`, `refs`, `fields` .. are these numbers where a table is not meant.
use Rattle.std.specs.Prelude.{List, Bool, true, false, not, ◌&&◌, ℕ, eqb}
use Rattle.rows.specs.Layout.{type_width, field_width, argument_width}
use Rattle.rows.specs.Rows.{rows_of}
use Rattle.rows.specs.Schema.{type_ref_at, type_at, member_at, field_at, argument_at}
use Rattle.rules.specs.Rows.{is_row, row_or_none, within, is_new, distinct}
use Rattle.std.specs.Prelude.{Option}
use Rattle.rows.specs.declared.schema.TypeRef.{TypeRef}
use Rattle.rows.specs.declared.schema.TypeRef.TheVariants.{Named, ListOf, Unknown as UnknownRef}
use Rattle.rows.specs.declared.schema.TypeKind.{TypeKind}
use Rattle.rows.specs.declared.schema.TypeKind.TheVariants.{Scalar, Enum, Object, Interface, Union, InputObject, Unknown}
use Rattle.rows.specs.declared.schema.TypeDef.{TypeDef}
use Rattle.rows.specs.declared.schema.Field.{Field}

-- "named or list, each nullable or not; a list's inner row comes earlier"
abbrev pub ref_lawful : ℕ → ℕ → TypeRef → Bool
ref_lawful names row (Named name nullable) = is_row names name
ref_lawful names row (ListOf inner nullable) = is_row row inner
ref_lawful names row UnknownRef = false

abbrev pub type_ref_row : ℕ → List ℕ → ℕ → Bool
type_ref_row names refs row = ref_lawful names row (type_ref_at refs row)

-- a name, and rows of fields and of members that are there
abbrev pub type_lawful : ℕ → ℕ → ℕ → TypeDef → Bool
type_lawful names members fields type = is_row names type.name && (within fields type.fields && within members type.members)

abbrev pub type_row : ℕ → ℕ → ℕ → List ℕ → ℕ → Bool
type_row names members fields types row = type_lawful names members fields (type_at types row)

-- "scalar, enum, object, interface, union, input object, with values, fields, members or interfaces": the kind, and how many fields
-- and members it may have
abbrev pub parts_lawful : TypeKind → ℕ → ℕ → Bool
parts_lawful Scalar fields members = eqb fields 0 && eqb members 0
parts_lawful Enum fields members = eqb fields 0
parts_lawful Object fields members = true
parts_lawful Interface fields members = true
parts_lawful Union fields members = eqb fields 0
parts_lawful InputObject fields members = eqb members 0
parts_lawful Unknown fields members = false

abbrev pub type_parts : List ℕ → ℕ → Bool
type_parts types row = parts_lawful (type_at types row).kind (type_at types row).fields.count (type_at types row).members.count

-- "distinct names": this type's name is none before it
abbrev pub type_name_new : List ℕ → ℕ → Bool
type_name_new types row = is_new types type_width 0 0 row

-- a member is a name
abbrev pub member_row : ℕ → List ℕ → ℕ → Bool
member_row names members row = is_row names (member_at members row)

-- "Fields and arguments .., with type reference, literal default or none, and place": what the two have in common
abbrev pub argument_lawful : ℕ → ℕ → ℕ → ℕ → ℕ → Option ℕ → Bool
argument_lawful names refs literals name ty default = (is_row names name && is_row refs ty) && row_or_none literals default

-- and none of the fields is `__typename`, the first of the names
abbrev pub field_lawful : ℕ → ℕ → ℕ → ℕ → Field → Bool
field_lawful names refs arguments literals field =
    not (eqb field.name 0)
    && (argument_lawful names refs literals field.name field.ty field.default && within arguments field.arguments)

abbrev pub field_row : ℕ → ℕ → ℕ → ℕ → List ℕ → ℕ → Bool
field_row names refs arguments literals fields row = field_lawful names refs arguments literals (field_at fields row)

-- "Field names are distinct within a type"
abbrev pub fields_differ : List ℕ → List ℕ → ℕ → Bool
fields_differ types fields row = distinct fields field_width 0 (type_at types row).fields

abbrev pub argument_row : ℕ → ℕ → ℕ → List ℕ → ℕ → Bool
argument_row names refs literals arguments row =
    argument_lawful names refs literals (argument_at arguments row).name (argument_at arguments row).ty (argument_at arguments row).default

-- "argument names within a field"
abbrev pub arguments_differ : List ℕ → List ℕ → ℕ → Bool
arguments_differ fields arguments row = distinct arguments argument_width 0 (field_at fields row).arguments

-- "Root type: an object type."
abbrev pub object_kind : TypeKind → Bool
object_kind Scalar = false
object_kind Enum = false
object_kind Object = true
object_kind Interface = false
object_kind Union = false
object_kind InputObject = false
object_kind Unknown = false

abbrev pub root_type : List ℕ → ℕ → Bool
root_type types root = is_row (rows_of types type_width) root && object_kind (type_at types root).kind
