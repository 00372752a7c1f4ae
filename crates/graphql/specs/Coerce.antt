-- CoerceArgumentValues (October 2021, section 6.4.1) and the input coercion of literals (sections 3.5 and 3.9 to 3.12), as the Rust reads them:
-- "Arguments as the Rust's." Read it after Values and Errors.
use Rattle.std.specs.Prelude.{List, [], ◌∷◌, ◌++◌, map, Bool, true, false, cond, ◌&&◌, ℕ, zero, suc, ◌-◌, eqb}
use Rattle.std.specs.Prelude.{Option, Some, None}
use Rattle.rows.specs.Names.{name_text}
use Rattle.rows.specs.Schema.{type_ref_at, type_at, field_at, argument_at}
use Rattle.rows.specs.Document.{given_at}
use Rattle.rows.specs.Json.{node_at, literal_at, literal_place, literal_key, variable_at}
use Rattle.rows.specs.declared.layout.Range.{Range}
use Rattle.rows.specs.declared.schema.TypeRef.{TypeRef}
use Rattle.rows.specs.declared.schema.TypeRef.TheVariants as ref
use Rattle.rows.specs.declared.schema.TypeKind.{TypeKind}
use Rattle.rows.specs.declared.schema.TypeKind.TheVariants as kind
use Rattle.codes.specs.declared.errors.FieldError.{FieldError}
use Rattle.codes.specs.declared.errors.FieldError.TheVariants as error
use Rattle.codes.specs.Outcome.{too_far, most_open}
use Rattle.graphql.specs.Run.{Path, here, M, pure, halt, fail, when, in_order, ◌>>=◌}
use Rattle.graphql.specs.Json.{Json, null, array, object, items, members}
use Rattle.graphql.specs.Errors.{error_of}
use Rattle.graphql.specs.Lookup.{rows_in, find, non_null, type_named, field_named, variable_named}
use Rattle.graphql.specs.Values.{opened, NodeForm, is_null, is_bool, is_other, node_form, variable_value, Shape, single, listed, keyed, LiteralForm, null_given, variable, shaped, literal_form, part_by_part}

-- The values of the arguments, by name.
abbrev pub Arguments : Type 0
Arguments = List (ℕ × Json)

unfoldable pub argument_named : ℕ → Arguments → Option Json
argument_named n [] = None
argument_named n (a ∷ rest) = let later = argument_named n rest in cond (eqb a.0 n) (Some a.1) later

unfoldable pub is_null_form : NodeForm → Bool
is_null_form is_null = true
is_null_form (is_bool b) = false
is_null_form is_other = false

unfoldable pub is_input_object : TypeKind → Bool
is_input_object kind.Scalar = false
is_input_object kind.Enum = false
is_input_object kind.Object = false
is_input_object kind.Interface = false
is_input_object kind.Union = false
is_input_object kind.InputObject = true
is_input_object kind.Unknown = false

-- the items of a list literal; "a non-list literal at a list type is wrapped once per level"
unfoldable pub items_of : (row : ℕ) → Shape → List ℕ
items_of row single = row ∷ []
items_of row (listed rows) = rows_in rows
items_of row (keyed rows) = row ∷ []

-- a variable's value is null where that may not be
unfoldable pub null_against : (refs nodes variables : List ℕ) → (ty v : ℕ) → Bool
null_against refs nodes variables ty v = is_null_form (node_form (node_at nodes (variable_at variables v).node)) && non_null refs ty

-- A literal fails at its own place.
unfoldable pub fail_at : {A : Type 0} → (literals : List ℕ) → FieldError → ℕ → Path → M A
fail_at literals e row p = fail here (error_of e 0 0 (literal_place literals row) p)

-- a key of an object literal that the type has no field for
unfoldable pub unknown_key : (types fields literals : List ℕ) → (type : ℕ) → List ℕ → Option ℕ
unknown_key types fields literals type given =
    find (λ m. elim (field_named types fields type (literal_key literals m)) [ None ↦ true | Some f ↦ false ]) given

module _ (pool names refs types fields nodes literals variables : List ℕ) where
  -- ---- One value

  -- A variable inside a list or an object: its value, null where it is absent and may be, or an error.
  unfoldable pub coerce_variable : Path → (ty row : ℕ) → Option ℕ → M Json
  coerce_variable p ty row None = when (non_null refs ty) (fail_at literals error.MissingVariable row p) (pure null)
  coerce_variable p ty row (Some v) =
      when (null_against refs nodes variables ty v) (fail_at literals error.NullVariable row p) (variable_value pool nodes variables v)

  -- `inside` coerces a literal at a type, one container further in; `room` is how many containers may still be opened.
  module _ (room : ℕ) (inside : ℕ → ℕ → M Json) (p : Path) where
    unfoldable pub coerce_items : (inner : ℕ) → List ℕ → M Json
    coerce_items inner rows = opened room (do
      js ← in_order (λ row. inside inner row) rows
      pure (array (items js)))

    -- An input field (section 3.10): as it is given, by its default, or missing. A field given as an absent variable is given: it comes to
    -- null even over its default, a listed difference (October 2021 takes the default, or leaves the key out). `row` is the whole object literal.
    unfoldable pub input_field : (row field : ℕ) → Option ℕ → Option ℕ → M (Option Json)
    input_field row field (Some given) default = do
      j ← inside (field_at fields field).ty given
      pure (Some j)
    input_field row field None (Some default) = do
      j ← part_by_part pool names literals (room - 1) default
      pure (Some j)
    input_field row field None None =
        when (non_null refs (field_at fields field).ty) (fail_at literals error.MissingInputField row p) (pure None)

    -- the fields of an input object type, in the type's order
    unfoldable pub input_fields : (row : ℕ) → List ℕ → List ℕ → M Json
    input_fields row given declared = opened room (do
      js ← in_order (λ field. input_field row field (given_for field) (field_at fields field).default) declared
      pure (object (members (map (λ field. name_text pool names (field_at fields field).name) declared) js)))
      where
        given_for : ℕ → Option ℕ
        given_for field = find (λ m. eqb (literal_key literals m) (field_at fields field).name) given

    -- Input objects (section 3.10). An unknown key is found before anything about the values.
    unfoldable pub known_object : (type row : ℕ) → List ℕ → Option ℕ → M Json
    known_object type row given (Some key) = fail_at literals error.UnknownKey row p
    known_object type row given None = input_fields row given (rows_in (type_at types type).fields)

    unfoldable pub input_object : (type row : ℕ) → Shape → M Json
    input_object type row single = fail_at literals error.CannotCoerce row p
    input_object type row (listed rows) = fail_at literals error.CannotCoerce row p
    input_object type row (keyed rows) = known_object type row (rows_in rows) (unknown_key types fields literals type (rows_in rows))

    unfoldable pub coerce_named : (row : ℕ) → Shape → Option ℕ → M Json
    coerce_named row shape None = fail_at literals error.UndefinedInputType row p
    coerce_named row shape (Some type) =
        when (is_input_object (type_at types type).kind) (input_object type row shape) (part_by_part pool names literals room row)

    -- At a list type every item is coerced at the inner type, and there wrapped anew: `[[Int]]` given `[1,2]` is `[[1],[2]]`, a listed
    -- difference (October 2021 has an error).
    unfoldable pub coerce_shape : (row : ℕ) → Shape → TypeRef → M Json
    coerce_shape row shape (ref.Named name nullable) = coerce_named row shape (type_named types name)
    coerce_shape row shape (ref.ListOf inner nullable) = coerce_items inner (items_of row shape)
    coerce_shape row shape ref.Unknown = fail_at literals error.UndefinedInputType row p

    unfoldable pub coerce_literal : (ty row : ℕ) → LiteralForm → M Json
    coerce_literal ty row null_given = when (non_null refs ty) (fail_at literals error.InnerNull row p) (pure null)
    coerce_literal ty row (variable name) = coerce_variable p ty row (variable_named variables name)
    coerce_literal ty row (shaped shape) = coerce_shape row shape (type_ref_at refs ty)

  -- A literal (a row) at a type reference (a row), in which so many containers may be open: the Rust's `coerce_argument_value`.
  unfoldable pub coerce_argument_value : (room : ℕ) → Path → (ty row : ℕ) → M Json
  coerce_argument_value zero p ty row = coerce_literal zero (λ ty' row'. halt too_far) p ty row (literal_form (literal_at literals row))
  coerce_argument_value (suc room) p ty row =
      coerce_literal (suc room) (λ ty' row'. coerce_argument_value room p ty' row') p ty row (literal_form (literal_at literals row))

  -- ---- CoerceArgumentValues(objectType, field, variableValues)

  module _ (arguments given : List ℕ) where
    -- an error at the argument's definition
    unfoldable pub argument_error : {A : Type 0} → FieldError → Path → ℕ → M A
    argument_error e p argument = fail here (error_of e 0 (argument_at arguments argument).place 0 p)

    unfoldable pub is_non_null : (argument : ℕ) → Bool
    is_non_null argument = non_null refs (argument_at arguments argument).ty

    -- the argument with the value that `m` comes to
    unfoldable pub valued : (argument : ℕ) → M Json → M Arguments
    valued argument m = do
      j ← m
      pure (((argument_at arguments argument).name, j) ∷ [])

    -- An argument that is not given, or given as an absent variable: its default, or missing.
    unfoldable pub default_argument : Path → ℕ → Option ℕ → M Arguments
    default_argument p argument (Some default) = valued argument (part_by_part pool names literals most_open default)
    default_argument p argument None = when (is_non_null argument) (argument_error error.MissingArgument p argument) (pure [])

    unfoldable pub variable_argument : Path → ℕ → Option ℕ → M Arguments
    variable_argument p argument None = default_argument p argument (argument_at arguments argument).default
    variable_argument p argument (Some v) =
        when (null_against refs nodes variables (argument_at arguments argument).ty v) (argument_error error.NullArgument p argument)
        (valued argument (variable_value pool nodes variables v))

    unfoldable pub literal_argument : Path → (argument row : ℕ) → M Arguments
    literal_argument p argument row = valued argument (coerce_argument_value most_open p (argument_at arguments argument).ty row)

    unfoldable pub given_argument : Path → (argument row : ℕ) → LiteralForm → M Arguments
    given_argument p argument row null_given =
        when (is_non_null argument) (argument_error error.NullArgument p argument) (literal_argument p argument row)
    given_argument p argument row (variable name) = variable_argument p argument (variable_named variables name)
    given_argument p argument row (shaped shape) = literal_argument p argument row

    unfoldable pub coerce_argument : Path → ℕ → Option ℕ → M Arguments
    coerce_argument p argument None = default_argument p argument (argument_at arguments argument).default
    coerce_argument p argument (Some g) =
        let row = (given_at given g).literal in
        given_argument p argument row (literal_form (literal_at literals row))

    -- Arguments go in definition order and stop at the first failure; those without a definition are passed over.
    unfoldable pub coerce_argument_values : Path → (definitions written : Range) → M Arguments
    coerce_argument_values p definitions written = do
      each ← in_order (λ argument. coerce_argument p argument (given_for argument)) (rows_in definitions)
      pure (joined each)
      where
        given_for : ℕ → Option ℕ
        given_for argument = find (λ g. eqb (given_at given g).name (argument_at arguments argument).name) (rows_in written)

        joined : List Arguments → Arguments
        joined [] = []
        joined (a ∷ rest) = a ++ joined rest
