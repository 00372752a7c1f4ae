-- What looking for variables in defaults rests on, from the rules on literals, fields and arguments. Assumes nothing.
use mathlib.Core.Path.{◌≡◌, refl}
use mathlib.Core.Bool.{true, not, ◌&&◌}
use mathlib.Core.List.{List}
use Prim.Native.Nat.{ℕ}
use lib.Dec.{eqb}
use Rattle.rows.specs.Schema.{field_at, argument_at}
use Rattle.rows.specs.Json.{literal_at, literal_key}
use Rattle.rules.specs.Rows.{is_row, row_or_none, within}
use Rattle.rules.specs.Schema.{argument_lawful, field_lawful, field_row, argument_row}
use Rattle.rules.specs.Json.{literal_lawful, literal_row}
use Rattle.tables.specs.Marking.{parts_later}
use Rattle.std.specs.Prelude.{Option}
use Rattle.rows.specs.declared.schema.Field.{Field}
use Rattle.rows.specs.declared.json.Literal.{Literal}
use Rattle.rows.specs.declared.json.Literal.TheVariants as literal
use Rattle.rows.proofs.Every.{and_left, and_right}

parts_later_lem : (pool : List ℕ) (names literals row : ℕ) (l : Literal) → literal_lawful pool names literals row l ≡ true → parts_later literals row l ≡ true
parts_later_lem pool names literals row literal.Null e = refl
parts_later_lem pool names literals row literal.False e = refl
parts_later_lem pool names literals row literal.True e = refl
parts_later_lem pool names literals row (literal.Natural n) e = refl
parts_later_lem pool names literals row (literal.Negative m) e = refl
parts_later_lem pool names literals row (literal.Float text) e = refl
parts_later_lem pool names literals row (literal.String text) e = refl
parts_later_lem pool names literals row (literal.List rows) e = e
parts_later_lem pool names literals row (literal.Object rows) e = e
parts_later_lem pool names literals row (literal.Enum name) e = refl
parts_later_lem pool names literals row (literal.Variable name) e = refl
parts_later_lem pool names literals row literal.Unknown e = refl

pub literal_parts_lem : (pool : List ℕ) (names count : ℕ) (literals : List ℕ) (row : ℕ) → literal_row pool names count literals row ≡ true
    → parts_later count row (literal_at literals row) ≡ true
literal_parts_lem pool names count literals row e =
    parts_later_lem pool names count row (literal_at literals row)
    (and_right (is_row names (literal_key literals row)) (literal_lawful pool names count row (literal_at literals row)) e)

of_argument_lem : (names refs literals name ty : ℕ) (d : Option ℕ) → argument_lawful names refs literals name ty d ≡ true → row_or_none literals d ≡ true
of_argument_lem names refs literals name ty d e = and_right (is_row names name && is_row refs ty) (row_or_none literals d) e

pub argument_default_lem : (names refs literals : ℕ) (arguments : List ℕ) (row : ℕ) → argument_row names refs literals arguments row ≡ true
    → row_or_none literals (argument_at arguments row).default ≡ true
argument_default_lem names refs literals arguments row e =
    of_argument_lem names refs literals (argument_at arguments row).name (argument_at arguments row).ty (argument_at arguments row).default e

of_field : (names refs arguments literals : ℕ) (f : Field) → field_lawful names refs arguments literals f ≡ true → row_or_none literals f.default ≡ true
of_field names refs arguments literals f e =
    let rest = and_right (not (eqb f.name 0)) (argument_lawful names refs literals f.name f.ty f.default && within arguments f.arguments) e in
    of_argument_lem names refs literals f.name f.ty f.default
    (and_left (argument_lawful names refs literals f.name f.ty f.default) (within arguments f.arguments) rest)

pub field_default_lem : (names refs arguments literals : ℕ) (fields : List ℕ) (row : ℕ) → field_row names refs arguments literals fields row ≡ true
    → row_or_none literals (field_at fields row).default ≡ true
field_default_lem names refs arguments literals fields row e = of_field names refs arguments literals (field_at fields row) e
