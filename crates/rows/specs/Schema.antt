-- The schema's tables: type references, types with their members, fields and arguments.
use Rattle.std.specs.Prelude.{List, cond, ℕ, ltb, eqb}
use Rattle.rows.specs.Layout.{type_ref_width, type_width, member_width, field_width, argument_width}
use Rattle.rows.specs.Rows.{cell, option_of}
use Rattle.rows.specs.declared.schema.TypeRef.{TypeRef}
use Rattle.rows.specs.declared.schema.TypeRef.TheVariants.{Named, ListOf, Unknown as UnknownRef}
use Rattle.rows.specs.declared.schema.TypeKind.{TypeKind}
use Rattle.rows.specs.declared.schema.TypeKind.TheVariants.{Scalar, Enum, Object, Interface, Union, InputObject, Unknown}
use Rattle.rows.specs.declared.schema.TypeDef.{TypeDef}
use Rattle.rows.specs.declared.schema.Field.{Field}
use Rattle.rows.specs.declared.schema.Argument.{Argument}

-- Type references: kind, non-null, and a name or an inner row.
abbrev pub type_ref_of : ℕ → ℕ → ℕ → TypeRef
type_ref_of kind non_null of =
    cond (ltb 1 non_null) UnknownRef
    (cond (eqb kind 0) (Named of (eqb non_null 0))
    (cond (eqb kind 1) (ListOf of (eqb non_null 0))
    UnknownRef))

unfoldable pub type_ref_at : List ℕ → ℕ → TypeRef
type_ref_at refs row = type_ref_of (cell refs type_ref_width row 0) (cell refs type_ref_width row 1) (cell refs type_ref_width row 2)

-- Types: name, kind, range of fields, range of members.
abbrev pub kind_of : ℕ → TypeKind
kind_of kind =
    cond (eqb kind 0) Scalar
    (cond (eqb kind 1) Enum
    (cond (eqb kind 2) Object
    (cond (eqb kind 3) Interface
    (cond (eqb kind 4) Union
    (cond (eqb kind 5) InputObject
    Unknown)))))

unfoldable pub type_at : List ℕ → ℕ → TypeDef
type_at types row = record {
  name = cell types type_width row 0;
  kind = kind_of (cell types type_width row 1);
  fields = record { first = cell types type_width row 2; count = cell types type_width row 3 };
  members = record { first = cell types type_width row 4; count = cell types type_width row 5 };
}

-- Members: a name.
abbrev pub member_at : List ℕ → ℕ → ℕ
member_at members row = cell members member_width row 0

-- Fields: name, type reference, default, place, range of arguments.
unfoldable pub field_at : List ℕ → ℕ → Field
field_at fields row = record {
  name = cell fields field_width row 0;
  ty = cell fields field_width row 1;
  default = option_of (cell fields field_width row 2);
  place = cell fields field_width row 3;
  arguments = record { first = cell fields field_width row 4; count = cell fields field_width row 5 };
}

-- Arguments: name, type reference, default, place.
unfoldable pub argument_at : List ℕ → ℕ → Argument
argument_at arguments row = record {
  name = cell arguments argument_width row 0;
  ty = cell arguments argument_width row 1;
  default = option_of (cell arguments argument_width row 2);
  place = cell arguments argument_width row 3;
}
