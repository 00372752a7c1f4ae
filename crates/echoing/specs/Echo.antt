-- What an argument comes to, without it being built: where its value stands, and that its text is written. A literal is written whose coercion has
-- been checked before; of one that cannot be coerced nothing is said but that the buffer stays as long as it was.
use Rattle.std.specs.Prelude.{◌≡◌, List, [], ◌∷◌, ◌++◌, ℕ, suc, ◌≤◌, ◌<◌, length}
use Rattle.std.specs.Prelude.{Option, Some, None}
use Rattle.rows.specs.Names.{name_text}
use Rattle.rows.specs.Schema.{type_ref_at, field_at}
use Rattle.tokens.specs.Escape.{quoted}
use Rattle.writing.specs.Wrote.{Writes}
use Rattle.graphql.specs.Run.{Path, Log, Choices, M, done}
use Rattle.graphql.specs.Json.{Json, print, containers}
use Rattle.graphql.specs.Lookup.{type_named, variable_named}
use Rattle.graphql.specs.Values.{part_by_part}
use Rattle.graphql.specs.Coerce.{coerce_variable, coerce_items, input_field, input_fields, coerce_named, coerce_shape, coerce_argument_value}
use Rattle.input_coercion.specs.Coerced.{shape_meant, given_for, inside}
use Rattle.input_coercion.specs.declared.check.Shape.{Shape}

-- ---- A text that was written, if there was room

-- from some choices the run came to this value
pub record Comes {A : Type 0} (m : M A) (v : A) : Type 0 where
  pub log : Log
  pub from : Choices
  pub to : Choices
  pub is : m from ≡ done v log to

-- the position after what was written; none where it was too far, or where there was no value
abbrev pub Put : Type 0
Put = Option ℕ

-- the text was written from `at` on, and the position is the one after it
pub record PutsOut (out : List ℕ) (before : List ℕ) (at : ℕ) (r : Put) (after : List ℕ) : Type 0 where
  pub end : ℕ
  pub is : r ≡ Some end
  pub writes : Writes before after at end out

-- that, where there is room for what opens so many containers; else it was too far
pub record Shown (room size : ℕ) (out : List ℕ) (before : List ℕ) (at : ℕ) (r : Put) (after : List ℕ) : Type 0 where
  pub fits : size ≤ room → PutsOut out before at r after
  pub full : room < size → r ≡ None

-- What a call came to that was to write the value of `m`, if it comes to one. `K` is what the value does not hang on: the path, and where an error
-- would stand.
pub record Shows {K A : Type 0} (size : A → ℕ) (out : A → List ℕ) (room : ℕ) (m : K → M A) (before : List ℕ) (at : ℕ) (r : Put)
    (after : List ℕ) : Type 0 where
  pub long : length after ≡ length before
  pub shown : (k : K) (v : A) → Comes (m k) v → Shown room (size v) (out v) before at r after

-- a value and its text
abbrev pub Echoes : (room : ℕ) → (Path → M Json) → (before : List ℕ) (at : ℕ) (r : Put) (after : List ℕ) → Type 0
Echoes room m before at r after = Shows containers print room m before at r after

-- ---- An input field: nothing where it is left out. The bytes: comma 44, colon 58.

unfoldable pub field_size : Option Json → ℕ
field_size None = 0
field_size (Some j) = containers j

unfoldable pub field_label : List ℕ → List ℕ
field_label key = 44 ∷ (quoted key ++ (58 ∷ []))

unfoldable pub field_text : (key : List ℕ) → Option Json → List ℕ
field_text key None = []
field_text key (Some j) = field_label key ++ print j

-- that of the field of this row
unfoldable pub field_out : (pool names fields : List ℕ) → (field : ℕ) → Option Json → List ℕ
field_out pool names fields field v = field_text (name_text pool names (field_at fields field).name) v

-- ---- The runs of the definition, by the path

module _ (pool names literals : List ℕ) where
  unfoldable pub of_part : (room row : ℕ) → Path → M Json
  of_part room row p = part_by_part pool names literals room row

module _ (pool names refs types fields nodes literals variables : List ℕ) where
  unfoldable pub of_value : (room ty row : ℕ) → Path → M Json
  of_value room ty row p = coerce_argument_value pool names refs types fields nodes literals variables room p ty row

  unfoldable pub of_variable : (ty row name : ℕ) → Path → M Json
  of_variable ty row name p = coerce_variable pool names refs types fields nodes literals variables p ty row (variable_named variables name)

  unfoldable pub of_items : (room inner : ℕ) → List ℕ → Path → M Json
  of_items room inner rows p =
      coerce_items pool names refs types fields nodes literals variables room (inside refs types fields nodes literals variables room pool names p) p
      inner rows

  unfoldable pub of_named : (room row : ℕ) → Shape → (name : ℕ) → Path → M Json
  of_named room row s name p =
      coerce_named pool names refs types fields nodes literals variables room (inside refs types fields nodes literals variables room pool names p) p
      row (shape_meant s) (type_named types name)

  unfoldable pub of_shape : (room ty row : ℕ) → Shape → Path → M Json
  of_shape room ty row s p =
      coerce_shape pool names refs types fields nodes literals variables room (inside refs types fields nodes literals variables room pool names p) p
      row (shape_meant s) (type_ref_at refs ty)

  -- A field of an object literal that is open: `room` is what is left inside it. An error would stand at the object's row.
  unfoldable pub of_field : (room : ℕ) → (given : List ℕ) → (field : ℕ) → (ℕ × Path) → M (Option Json)
  of_field room given field k =
      input_field pool names refs types fields nodes literals variables (suc room)
      (inside refs types fields nodes literals variables (suc room) pool names k.1) k.1 k.0 field
      (given_for fields literals given field) (field_at fields field).default

  unfoldable pub of_fields : (room : ℕ) → (given declared : List ℕ) → (ℕ × Path) → M Json
  of_fields room given declared k =
      input_fields pool names refs types fields nodes literals variables room
      (inside refs types fields nodes literals variables room pool names k.1) k.1 k.0 given declared

-- A variable inside a literal, whatever its type and wherever it stands.
pub record EchoesVariable (pool nodes variables : List ℕ) (room name : ℕ) (before : List ℕ) (at : ℕ) (r : Put) (after : List ℕ) : Type 0 where
  pub echoes : (names refs types fields literals : List ℕ) (ty row : ℕ)
      → Echoes room (of_variable pool names refs types fields nodes literals variables ty row name) before at r after

-- the fields of an object literal, whose row is where an error would stand
abbrev pub EchoesFields : (pool names refs types fields nodes literals variables : List ℕ) (room : ℕ) → (given declared : List ℕ)
    → (before : List ℕ) (at : ℕ) (r : Put) (after : List ℕ) → Type 0
EchoesFields pool names refs types fields nodes literals variables room given declared before at r after =
    Shows containers print room (of_fields pool names refs types fields nodes literals variables room given declared) before at r after
