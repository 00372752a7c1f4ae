-- What holds of every way in which collecting fields, coercing arguments and resolving a field are put together holds of them: a property of
-- computations that the combinators keep is one of each definition. One lemma for each definition. Assumes nullGiven.
use mathlib.Core.List.{List, [], ◌∷◌}
use mathlib.Core.Bool.{Bool}
use Rattle.std.specs.Prelude.{Option, Some, None}
use Prim.Native.Nat.{ℕ, zero, suc}
use Rattle.rows.specs.declared.layout.Range.{Range}
use Rattle.rows.specs.declared.schema.TypeRef.{TypeRef}
use Rattle.rows.specs.declared.schema.TypeRef.TheVariants as ref
use Rattle.rows.specs.declared.document.Selected.{Selected}
use Rattle.rows.specs.declared.document.Selected.TheVariants as selected
use Rattle.rows.specs.declared.json.Node.{Node}
use Rattle.rows.specs.declared.json.Node.TheVariants as node
use Rattle.rows.specs.declared.json.Literal.{Literal}
use Rattle.rows.specs.declared.json.Literal.TheVariants as literal
use Rattle.rows.specs.declared.answers.Answer.{Answer}
use Rattle.rows.specs.declared.answers.Answer.TheVariants as answer
use Rattle.codes.specs.declared.errors.FieldError.{FieldError}
use Rattle.codes.specs.Outcome.{too_far, too_many_fields, variable_in_literal}
use Rattle.graphql.specs.Run.{Path, here, M, pure, halt, fail, when, ◌>>=◌, in_order}
use Rattle.graphql.specs.Json.{Json}
use Rattle.graphql.specs.Errors.{error_of}
use Rattle.graphql.specs.Values.{opened, array_of, object_of, value_of, node_value, variable_value, Shape, single, listed, keyed, LiteralForm, null_given, variable, shaped, parts_of, part_by_part}
use Rattle.graphql.specs.Collect.{Collected, Group, collect_field, enter_fragment, spread, collect_selected, collect_fields, collect_within, collect}
use Rattle.graphql.specs.Coerce.{Arguments, fail_at, coerce_variable, coerce_items, input_field, input_fields, known_object, input_object, coerce_named, coerce_shape, coerce_literal, coerce_argument_value, argument_error, valued, default_argument, variable_argument, literal_argument, given_argument, coerce_argument, coerce_argument_values}
use Rattle.graphql.specs.Request.{Request}
use Rattle.graphql.specs.Complete.{Resolved, coerce_arguments, echoed, resolved, answered, resolve_field_value}

-- A property that each combinator keeps; of failures it is asked only for the errors that are made at the path `p`.
pub record Closed (P : (A : Type 0) → M A → Type 0) (p : Path) : Type 1 where
  pub of_pure : {A : Type 0} (a : A) → P A (pure a)
  pub of_far : {A : Type 0} → P A (halt too_far)
  pub of_fields : {A : Type 0} → P A (halt too_many_fields)
  pub of_variable_lem : {A : Type 0} → P A (halt variable_in_literal)
  pub of_error : {A : Type 0} (e : FieldError) (field definition literal : ℕ) → P A (fail here (error_of e field definition literal p))
  pub of_when : {A : Type 0} (b : Bool) {m n : M A} → P A m → P A n → P A (when b m n)
  pub of_bind : {A B : Type 0} {m : M A} {k : A → M B} → P A m → ((a : A) → P B (k a)) → P B (m >>= k)
  pub of_in_order : {G B : Type 0} {run : G → M B} → ((g : G) → P B (run g)) → (gs : List G) → P (List B) (in_order run gs)

module _ {P : (A : Type 0) → M A → Type 0} {p : Path} (C : Closed P p) where
  c_pure : {A : Type 0} (a : A) → P A (pure a)
  c_pure a = C.of_pure a

  c_far : {A : Type 0} → P A (halt too_far)
  c_far = C.of_far

  c_fields : {A : Type 0} → P A (halt too_many_fields)
  c_fields = C.of_fields

  c_variable : {A : Type 0} → P A (halt variable_in_literal)
  c_variable = C.of_variable_lem

  c_when : {A : Type 0} (b : Bool) {m n : M A} → P A m → P A n → P A (when b m n)
  c_when b h k = C.of_when b h k

  c_bind : {A B : Type 0} {m : M A} {k : A → M B} → P A m → ((a : A) → P B (k a)) → P B (m >>= k)
  c_bind h k = C.of_bind h k

  c_in_order : {G B : Type 0} {run : G → M B} → ((g : G) → P B (run g)) → (gs : List G) → P (List B) (in_order run gs)
  c_in_order h gs = C.of_in_order h gs

  c_opened : {A : Type 0} (room : ℕ) {m : M A} → P A m → P A (opened room m)
  unfolding opened
  c_opened zero h = C.of_far
  c_opened (suc room) h = h

  ruleset closed = (c_pure, c_far, c_fields, c_variable, c_when, c_bind, c_in_order, c_opened)

  -- ---- Collect

  field_closed : (key row : ℕ) (c : Collected) → P Collected (collect_field key row c)
  unfolding collect_field
  field_closed key row c = search closed

  module _ (types members sets selections fragments variables nodes : List ℕ) where
    module _ {open' : ℕ → ℕ → Collected → M Collected} (h : (o s : ℕ) (c : Collected) → P Collected (open' o s c)) (object : ℕ) where
      fragment_closed : (f : Option ℕ) (c : Collected) → P Collected (enter_fragment types members sets selections fragments variables nodes open' object f c)
      unfolding enter_fragment
      fragment_closed None c = search closed
      fragment_closed (Some f) c = search closed

      spread_closed : (n : ℕ) (c : Collected) → P Collected (spread types members sets selections fragments variables nodes open' object n c)
      unfolding spread
      spread_closed n c = search (closed, fragment_closed)

      selected_closed : (row : ℕ) (s : Selected) (c : Collected) → P Collected (collect_selected types members sets selections fragments variables nodes open' object row s c)
      unfolding collect_selected
      selected_closed row (selected.Field f) c = field_closed f.key row c
      selected_closed row (selected.Spread n) c = spread_closed n c
      selected_closed row (selected.Inline type set) c = search closed
      selected_closed row selected.Unknown c = search closed

      fields_closed : (rows : List ℕ) (c : Collected) → P Collected (collect_fields types members sets selections fragments variables nodes open' object rows c)
      unfolding collect_fields
      fields_closed [] c = search closed
      fields_closed (row ∷ rest) c = C.of_bind (C.of_when _ (C.of_pure c) (selected_closed row _ c)) (λ d. fields_closed rest d)

    within_closed : (room object set : ℕ) (c : Collected) → P Collected (collect_within types members sets selections fragments variables nodes room object set c)
    unfolding collect_within
    within_closed zero object set c = search closed
    within_closed (suc room) object set c = fields_closed (within_closed room) object _ c

    pub collect_closed : (object : ℕ) (rows : List ℕ) → P (List Group) (collect types members sets selections fragments variables nodes object rows)
    unfolding collect
    collect_closed object rows = C.of_bind (fields_closed (within_closed 32) object rows _) (λ c. C.of_pure _)

  -- ---- Values

  module _ (room : ℕ) {inside : ℕ → M Json} (h : (row : ℕ) → P Json (inside row)) where
    array_closed : (rows : List ℕ) → P Json (array_of room inside rows)
    unfolding array_of
    array_closed rows = search closed

    object_closed : (key : ℕ → List ℕ) (rows : List ℕ) → P Json (object_of room inside key rows)
    unfolding object_of
    object_closed key rows = search closed

    node_closed : (pool nodes : List ℕ) (n : Node) → P Json (value_of pool nodes room inside n)
    unfolding value_of
    node_closed pool nodes node.Null = search closed
    node_closed pool nodes node.False = search closed
    node_closed pool nodes node.True = search closed
    node_closed pool nodes (node.Natural low high) = search closed
    node_closed pool nodes (node.Negative low high) = search closed
    node_closed pool nodes (node.Float text) = search closed
    node_closed pool nodes (node.String text) = search closed
    node_closed pool nodes (node.Array rows) = array_closed _
    node_closed pool nodes (node.Object rows) = object_closed _ _
    node_closed pool nodes node.Unknown = search closed

    parts_closed : (pool names literals : List ℕ) (l : Literal) → P Json (parts_of pool names literals room inside l)
    unfolding parts_of
    parts_closed pool names literals literal.Null = search closed
    parts_closed pool names literals literal.False = search closed
    parts_closed pool names literals literal.True = search closed
    parts_closed pool names literals (literal.Natural n) = search closed
    parts_closed pool names literals (literal.Negative m) = search closed
    parts_closed pool names literals (literal.Float text) = search closed
    parts_closed pool names literals (literal.String text) = search closed
    parts_closed pool names literals (literal.List rows) = array_closed _
    parts_closed pool names literals (literal.Object rows) = object_closed _ _
    parts_closed pool names literals (literal.Enum name) = search closed
    parts_closed pool names literals (literal.Variable name) = search closed
    parts_closed pool names literals literal.Unknown = search closed

  node_value_closed : (pool nodes : List ℕ) (room row : ℕ) → P Json (node_value pool nodes room row)
  unfolding node_value
  node_value_closed pool nodes zero row = node_closed zero (λ part. C.of_far) pool nodes _
  node_value_closed pool nodes (suc room) row = node_closed (suc room) (node_value_closed pool nodes room) pool nodes _

  variable_closed : (pool nodes variables : List ℕ) (v : ℕ) → P Json (variable_value pool nodes variables v)
  unfolding variable_value
  variable_closed pool nodes variables v = node_value_closed pool nodes _ _

  part_by_part_closed : (pool names literals : List ℕ) (room row : ℕ) → P Json (part_by_part pool names literals room row)
  unfolding part_by_part
  part_by_part_closed pool names literals zero row = parts_closed zero (λ part. C.of_far) pool names literals _
  part_by_part_closed pool names literals (suc room) row = parts_closed (suc room) (part_by_part_closed pool names literals room) pool names literals _

  -- ---- Coerce

  module _ (pool names refs types fields nodes literals variables : List ℕ) where
    fail_at_closed : {A : Type 0} (e : FieldError) (row : ℕ) → P A (fail_at literals e row p)
    unfolding fail_at
    fail_at_closed e row = C.of_error _ _ _ _

    coerce_variable_closed : (ty row : ℕ) (v : Option ℕ) → P Json (coerce_variable pool names refs types fields nodes literals variables p ty row v)
    unfolding coerce_variable
    coerce_variable_closed ty row None = search (closed, fail_at_closed)
    coerce_variable_closed ty row (Some v) = search (closed, fail_at_closed, variable_closed)

    module _ (room : ℕ) {inside : ℕ → ℕ → M Json} (h : (ty row : ℕ) → P Json (inside ty row)) where
      coerce_items_closed : (inner : ℕ) (rows : List ℕ) → P Json (coerce_items pool names refs types fields nodes literals variables room inside p inner rows)
      unfolding coerce_items
      coerce_items_closed inner rows = search closed

      input_field_closed : (row f : ℕ) (given : Option ℕ) (default : Option ℕ)
          → P (Option Json) (input_field pool names refs types fields nodes literals variables room inside p row f given default)
      unfolding input_field
      input_field_closed row f (Some given) default = search closed
      input_field_closed row f None (Some default) = search (closed, part_by_part_closed)
      input_field_closed row f None None = search (closed, fail_at_closed)

      input_fields_closed : (row : ℕ) (given declared : List ℕ)
          → P Json (input_fields pool names refs types fields nodes literals variables room inside p row given declared)
      unfolding input_fields
      input_fields_closed row given declared =
          c_opened room (C.of_bind (C.of_in_order (λ f. input_field_closed row f _ _) declared) (λ js. C.of_pure _))

      known_closed : (type row : ℕ) (given : List ℕ) (key : Option ℕ)
          → P Json (known_object pool names refs types fields nodes literals variables room inside p type row given key)
      unfolding known_object
      known_closed type row given (Some key) = fail_at_closed _ row
      known_closed type row given None = input_fields_closed row given _

      input_object_closed : (type row : ℕ) (shape : Shape)
          → P Json (input_object pool names refs types fields nodes literals variables room inside p type row shape)
      unfolding input_object
      input_object_closed type row single = fail_at_closed _ row
      input_object_closed type row (listed rows) = fail_at_closed _ row
      input_object_closed type row (keyed rows) = known_closed type row _ _

      coerce_named_closed : (row : ℕ) (shape : Shape) (type : Option ℕ)
          → P Json (coerce_named pool names refs types fields nodes literals variables room inside p row shape type)
      unfolding coerce_named
      coerce_named_closed row shape None = fail_at_closed _ row
      coerce_named_closed row shape (Some type) = search (closed, input_object_closed, part_by_part_closed)

      coerce_shape_closed : (row : ℕ) (shape : Shape) (t : TypeRef)
          → P Json (coerce_shape pool names refs types fields nodes literals variables room inside p row shape t)
      unfolding coerce_shape
      coerce_shape_closed row shape (ref.Named name nullable) = coerce_named_closed row shape _
      coerce_shape_closed row shape (ref.ListOf inner nullable) = coerce_items_closed inner _
      coerce_shape_closed row shape ref.Unknown = fail_at_closed _ row

      coerce_literal_closed : (ty row : ℕ) (l : LiteralForm)
          → P Json (coerce_literal pool names refs types fields nodes literals variables room inside p ty row l)
      unfolding coerce_literal
      coerce_literal_closed ty row null_given = search (closed, fail_at_closed)
      coerce_literal_closed ty row (variable name) = coerce_variable_closed ty row _
      coerce_literal_closed ty row (shaped shape) = coerce_shape_closed row shape _

    value_closed : (room ty row : ℕ) → P Json (coerce_argument_value pool names refs types fields nodes literals variables room p ty row)
    unfolding coerce_argument_value
    value_closed zero ty row = coerce_literal_closed zero (λ ty' row'. C.of_far) ty row _
    value_closed (suc room) ty row = coerce_literal_closed (suc room) (value_closed room) ty row _

    module _ (arguments given : List ℕ) where
      argument_error_closed : {A : Type 0} (e : FieldError) (argument : ℕ)
          → P A (argument_error pool names refs types fields nodes literals variables arguments given e p argument)
      unfolding argument_error
      argument_error_closed e argument = C.of_error _ _ _ _

      valued_closed : (argument : ℕ) {m : M Json} → P Json m → P Arguments (valued pool names refs types fields nodes literals variables arguments given argument m)
      unfolding valued
      valued_closed argument h = search closed

      default_closed_lem : (argument : ℕ) (default : Option ℕ)
          → P Arguments (default_argument pool names refs types fields nodes literals variables arguments given p argument default)
      unfolding default_argument
      default_closed_lem argument (Some default) = valued_closed argument (part_by_part_closed pool names literals 32 default)
      default_closed_lem argument None = search (closed, argument_error_closed)

      variable_argument_closed : (argument : ℕ) (v : Option ℕ)
          → P Arguments (variable_argument pool names refs types fields nodes literals variables arguments given p argument v)
      unfolding variable_argument
      variable_argument_closed argument None = default_closed_lem argument _
      variable_argument_closed argument (Some v) = search (closed, argument_error_closed, valued_closed, variable_closed)

      literal_argument_closed : (argument row : ℕ)
          → P Arguments (literal_argument pool names refs types fields nodes literals variables arguments given p argument row)
      unfolding literal_argument
      literal_argument_closed argument row = valued_closed argument (value_closed 32 _ row)

      given_argument_closed : (argument row : ℕ) (l : LiteralForm)
          → P Arguments (given_argument pool names refs types fields nodes literals variables arguments given p argument row l)
      unfolding given_argument
      given_argument_closed argument row null_given = search (closed, argument_error_closed, literal_argument_closed)
      given_argument_closed argument row (variable name) = variable_argument_closed argument _
      given_argument_closed argument row (shaped shape) = literal_argument_closed argument row

      coerce_argument_closed : (argument : ℕ) (g : Option ℕ)
          → P Arguments (coerce_argument pool names refs types fields nodes literals variables arguments given p argument g)
      unfolding coerce_argument
      coerce_argument_closed argument None = default_closed_lem argument _
      coerce_argument_closed argument (Some g) = given_argument_closed argument _ _

      arguments_closed : (definitions written : Range)
          → P Arguments (coerce_argument_values pool names refs types fields nodes literals variables arguments given p definitions written)
      unfolding coerce_argument_values
      arguments_closed definitions written = C.of_bind (C.of_in_order (λ argument. coerce_argument_closed argument _) _) (λ each. C.of_pure _)

  pub coerce_arguments_closed : (Q : Request) (definitions written : Range) → P Arguments (coerce_arguments Q p definitions written)
  unfolding coerce_arguments
  coerce_arguments_closed Q definitions written = arguments_closed _ _ _ _ _ _ _ _ _ _ definitions written

  -- ---- Resolve

  module _ (Q : Request) where
    echoed_closed : (n : ℕ) (j : Option Json) → P Resolved (echoed Q n j)
    unfolding echoed
    echoed_closed n None = search closed
    echoed_closed n (Some j) = search closed

    pub resolved_closed : (args : Arguments) (row : ℕ) (a : Answer) → P Resolved (resolved Q args row a)
    unfolding resolved
    resolved_closed args row answer.Skip = search closed
    resolved_closed args row answer.Error = search closed
    resolved_closed args row (answer.Leaf node) = search (closed, node_value_closed)
    resolved_closed args row (answer.List rows) = search closed
    resolved_closed args row (answer.Object n rows) = search closed
    resolved_closed args row (answer.Echo n) = echoed_closed n _
    resolved_closed args row answer.Unknown = search closed

    answered_closed : (args : Arguments) (row : Option ℕ) → P Resolved (answered Q args row)
    unfolding answered
    answered_closed args None = search closed
    answered_closed args (Some row) = resolved_closed args row _

    pub resolve_field_value_closed : (rows : Range) (n : ℕ) (args : Arguments) → P Resolved (resolve_field_value Q rows n args)
    unfolding resolve_field_value
    resolve_field_value_closed rows n args = answered_closed args _
