-- What the functions of the check stand for: a run of the definition each, with `inside` the coercion one container further in. And what they
-- need of the tables.
use Rattle.std.specs.Prelude.{◌≡◌, List, ℕ, zero, suc, ◌+◌, ◌≤◌, eqb}
use Rattle.std.specs.Prelude.{Option}
use Rattle.rows.specs.Limits.{most_literals, most_fields}
use Rattle.rows.specs.Schema.{type_ref_at, type_at, field_at, argument_at}
use Rattle.rows.specs.Document.{given_at}
use Rattle.rows.specs.Json.{literal_at, literal_key}
use Rattle.rows.specs.declared.layout.Range.{Range}
use Rattle.rows.specs.declared.schema.Argument.{Argument}
use Rattle.codes.specs.Outcome.{too_far}
use Rattle.graphql.specs.Run.{Path, M, halt, in_order}
use Rattle.graphql.specs.Json.{Json}
use Rattle.graphql.specs.Lookup.{rows_in, find, type_named, variable_named}
use Rattle.graphql.specs.Values.{opened, variable_value, LiteralForm, literal_form, part_by_part}
use Rattle.graphql.specs.Values as defined
use Rattle.graphql.specs.Coerce.{Arguments, items_of, coerce_variable, coerce_items, input_field, input_fields, input_object, coerce_named, coerce_shape, coerce_argument_value, default_argument, variable_argument, coerce_argument, coerce_argument_values}
use Rattle.input_coercion.specs.declared.check.Shape.{Shape}
use Rattle.input_coercion.specs.declared.check.Shape.TheVariants as shape
use Rattle.input_coercion.specs.declared.check.Form.{Form}
use Rattle.input_coercion.specs.declared.check.Form.TheVariants as form
use Rattle.input_coercion.specs.Ends.{Coercion, Valued, Coercing, Checks}

-- ---- What coercion tells apart in a literal

abbrev pub shape_meant : Shape → defined.Shape
shape_meant shape.Single = defined.single
shape_meant (shape.Listed rows) = defined.listed rows
shape_meant (shape.Keyed rows) = defined.keyed rows

abbrev pub form_meant : Form → LiteralForm
form_meant form.Null = defined.null_given
form_meant (form.Variable name) = defined.variable name
form_meant (form.Shaped s) = defined.shaped (shape_meant s)

-- the code's answer is the form of the literal at a row
pub record FormAt (literals : List ℕ) (row : ℕ) (f : Form) : Type 0 where
  pub is : literal_form (literal_at literals row) ≡ form_meant f

-- the items of a list literal are few
pub record Listable (s : Shape) : Type 0 where
  pub few : (rows : Range) → s ≡ shape.Listed rows → rows.first + rows.count ≤ most_literals

-- the rows are the items of a literal, and their numbers are words
pub record ItemsAt (row : ℕ) (s : Shape) (rows : Range) : Type 0 where
  pub are : rows_in rows ≡ items_of row (shape_meant s)
  pub words : rows.first + rows.count ≤ 4294967296

-- ---- What the check needs of its tables, and lawful tables give

-- the parts of a literal are among the first 1,024 rows
pub record Parted (literals : List ℕ) : Type 0 where
  pub lists : (row : ℕ) (rows : Range) → literal_form (literal_at literals row) ≡ defined.shaped (defined.listed rows)
      → rows.first + rows.count ≤ most_literals
  pub objects : (row : ℕ) (rows : Range) → literal_form (literal_at literals row) ≡ defined.shaped (defined.keyed rows)
      → rows.first + rows.count ≤ most_literals

-- a variable's value is there: its containers are not deeper than there are nodes
pub record Valuable (nodes variables : List ℕ) : Type 0 where
  pub values : (pool : List ℕ) (v : ℕ) → Valued (variable_value pool nodes variables v)

-- and the fields of a type are among the first 1,024 rows
pub record Coercible (types nodes literals variables : List ℕ) : Type 0 where
  pub parted : Parted literals
  pub valuable : Valuable nodes variables
  pub few : (type : ℕ) → (type_at types type).fields.first + (type_at types type).fields.count ≤ most_fields

-- ---- A literal that converts part by part

module _ (literals : List ℕ) where
  unfoldable pub of_part : (room row : ℕ) → Coercing Json
  of_part room row pool names p = part_by_part pool names literals room row

  unfoldable pub part_inside : (room : ℕ) → (pool names : List ℕ) → (row : ℕ) → M Json
  part_inside zero pool names row = halt too_far
  part_inside (suc room) pool names row = part_by_part pool names literals room row

  -- the values of a container's parts
  unfoldable pub of_parts : (room : ℕ) → Range → Coercing (List Json)
  of_parts room rows pool names p = opened room (in_order (part_inside room pool names) (rows_in rows))

-- ---- A literal at a type

-- the literal that an object literal gives for a field
unfoldable pub given_for : (fields literals : List ℕ) → (given : List ℕ) → (field : ℕ) → Option ℕ
given_for fields literals given field = find (λ m. eqb (literal_key literals m) (field_at fields field).name) given

-- what is written for an argument of this name
unfoldable pub given_named : (given : List ℕ) → (name : ℕ) → (written : List ℕ) → Option ℕ
given_named given name written = find (λ g. eqb (given_at given g).name name) written

module _ (refs types fields nodes literals variables : List ℕ) where
  unfoldable pub inside : (room : ℕ) → (pool names : List ℕ) → Path → (ty row : ℕ) → M Json
  inside zero pool names p ty row = halt too_far
  inside (suc room) pool names p ty row = coerce_argument_value pool names refs types fields nodes literals variables room p ty row

  unfoldable pub of_value : (room ty row : ℕ) → Coercing Json
  of_value room ty row pool names p = coerce_argument_value pool names refs types fields nodes literals variables room p ty row

  unfoldable pub of_variable : (ty row name : ℕ) → Coercing Json
  of_variable ty row name pool names p =
      coerce_variable pool names refs types fields nodes literals variables p ty row (variable_named variables name)

  unfoldable pub of_items : (room inner : ℕ) → List ℕ → Coercing Json
  of_items room inner rows pool names p =
      coerce_items pool names refs types fields nodes literals variables room (inside room pool names p) p inner rows

  -- a field of an object literal that is open: `room` is what is left inside it
  unfoldable pub of_field : (room row : ℕ) → (given : List ℕ) → (field : ℕ) → Coercing (Option Json)
  of_field room row given field pool names p =
      input_field pool names refs types fields nodes literals variables (suc room) (inside (suc room) pool names p) p row field
      (given_for fields literals given field) (field_at fields field).default

  unfoldable pub of_fields : (room row : ℕ) → (given declared : List ℕ) → Coercing Json
  of_fields room row given declared pool names p =
      input_fields pool names refs types fields nodes literals variables room (inside room pool names p) p row given declared

  unfoldable pub of_object : (room type row : ℕ) → Shape → Coercing Json
  of_object room type row s pool names p =
      input_object pool names refs types fields nodes literals variables room (inside room pool names p) p type row (shape_meant s)

  unfoldable pub of_named : (room row : ℕ) → Shape → (name : ℕ) → Coercing Json
  of_named room row s name pool names p =
      coerce_named pool names refs types fields nodes literals variables room (inside room pool names p) p row (shape_meant s) (type_named types name)

  unfoldable pub of_shape : (room ty row : ℕ) → Shape → Coercing Json
  of_shape room ty row s pool names p =
      coerce_shape pool names refs types fields nodes literals variables room (inside room pool names p) p row (shape_meant s) (type_ref_at refs ty)

  -- ---- The arguments of a field

  module _ (arguments given : List ℕ) where
    unfoldable pub of_default : (row : ℕ) → Coercing Arguments
    of_default row pool names p =
        default_argument pool names refs types fields nodes literals variables arguments given p row (argument_at arguments row).default

    unfoldable pub of_variable_argument : (row name : ℕ) → Coercing Arguments
    of_variable_argument row name pool names p =
        variable_argument pool names refs types fields nodes literals variables arguments given p row (variable_named variables name)

    -- an argument of a definition, among those that are written
    unfoldable pub of_argument : (written : Range) → (row : ℕ) → Coercing Arguments
    of_argument written row pool names p =
        coerce_argument pool names refs types fields nodes literals variables arguments given p row
        (given_named given (argument_at arguments row).name (rows_in written))

    unfoldable pub of_arguments : (definitions written : Range) → Coercing Arguments
    of_arguments definitions written pool names p =
        coerce_argument_values pool names refs types fields nodes literals variables arguments given p definitions written

-- Of these functions some do not read every table: it is so whatever stands in the others.

pub record ChecksInner (refs nodes literals variables : List ℕ) (ty row name : ℕ) (r : Coercion) : Type 0 where
  pub checks : (types fields : List ℕ) → Checks (of_variable refs types fields nodes literals variables ty row name) r

pub record ChecksDefault (refs literals : List ℕ) (argument : Argument) (r : Coercion) : Type 0 where
  pub checks : (types fields nodes variables arguments given : List ℕ) (row : ℕ) → argument ≡ argument_at arguments row
      → Checks (of_default refs types fields nodes literals variables arguments given row) r

pub record ChecksVariable (refs nodes literals variables : List ℕ) (argument : Argument) (name : ℕ) (r : Coercion) : Type 0 where
  pub checks : (types fields arguments given : List ℕ) (row : ℕ) → argument ≡ argument_at arguments row
      → Checks (of_variable_argument refs types fields nodes literals variables arguments given row name) r
