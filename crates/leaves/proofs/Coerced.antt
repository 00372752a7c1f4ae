-- What a literal that is no variable comes to at a type: null, a container, or what it is part by part. Assumes nothing.
use mathlib.Core.Path.{◌≡◌, refl}
use mathlib.Core.Bool.{Bool, true, false}
use mathlib.Core.List.{List}
use Rattle.std.specs.Prelude.{Option, Some, None}
use Prim.Native.Nat.{ℕ, zero, suc}
use Rattle.rows.specs.Schema.{type_ref_at, type_at}
use Rattle.rows.specs.Json.{literal_at}
use Rattle.rows.specs.declared.schema.TypeRef.{TypeRef}
use Rattle.rows.specs.declared.schema.TypeRef.TheVariants as ref
use Rattle.codes.specs.Outcome.{too_far, most_open}
use Rattle.codes.specs.declared.errors.FieldError.TheVariants as error
use Rattle.graphql.specs.Run.{Path, M, pure, when, ◌>>=◌}
use Rattle.graphql.specs.Json.{Json, null, sort_of, a_container}
use Rattle.graphql.specs.Lookup.{rows_in, non_null, type_named}
use Rattle.graphql.specs.Values.{opened, Shape, single, listed, keyed, LiteralForm, null_given, variable, shaped, literal_form, part_by_part}
use Rattle.graphql.specs.Coerce.{is_input_object, unknown_key, coerce_items, input_fields, known_object, input_object, coerce_named, coerce_shape, coerce_literal}
use Rattle.input_coercion.specs.Coerced.{inside}
use Rattle.echoing.specs.Echo.{Comes, of_value}
use Rattle.echoing.proofs.Comes.{comes_pure, comes_halt, comes_failed, not_failed, made}
use Rattle.echoing.proofs.Walk.{by_form}
use Rattle.leaves.specs.Leaves.{Echoed}
use Rattle.leaves.specs.Literals.{named_container, is_container}

-- what is put together of parts is a container, whatever they are
pub put_together : {A : Type 0} {j : Json} (room : ℕ) (m : M A) (make : A → Json) → ((a : A) → sort_of (make a) ≡ a_container)
    → Comes (opened room (m >>= λ a. pure (make a))) j → sort_of j ≡ a_container
unfolding opened
put_together zero m make k q = absurd (comes_halt too_far q)
put_together {j = j} (suc room) m make k q = let n = made m make j q in rw (← n.is) (k n.value)

module _ (pool names refs types fields nodes literals variables : List ℕ) (ty row : ℕ) (j : Json) where
  pub data Became : Type 0 where
    as_null : literal_form (literal_at literals row) ≡ null_given → null ≡ j → Became
    as_container : (s : Shape) → literal_form (literal_at literals row) ≡ shaped s → is_container types (type_ref_at refs ty) ≡ true
        → sort_of j ≡ a_container → Became
    as_parts : (s : Shape) → literal_form (literal_at literals row) ≡ shaped s → is_container types (type_ref_at refs ty) ≡ false
        → Comes (part_by_part pool names literals most_open row) j → Became

  module _ (p : Path) where
    abbrev deeper : ℕ → ℕ → M Json
    deeper = inside refs types fields nodes literals variables most_open pool names p

    object_known : (type : ℕ) (given : List ℕ) (o : Option ℕ)
        → Comes (known_object pool names refs types fields nodes literals variables most_open deeper p type row given o) j → sort_of j ≡ a_container
    unfolding known_object input_fields sort_of
    object_known type given None q = put_together most_open _ _ (λ js. refl) q
    object_known type given (Some key) q = absurd (comes_failed literals error.UnknownKey row p q)

    is_object_lem : (type : ℕ) (s : Shape)
        → Comes (input_object pool names refs types fields nodes literals variables most_open deeper p type row s) j → sort_of j ≡ a_container
    unfolding input_object
    is_object_lem type single q = absurd (comes_failed literals error.CannotCoerce row p q)
    is_object_lem type (listed rows) q = absurd (comes_failed literals error.CannotCoerce row p q)
    is_object_lem type (keyed rows) q = object_known type (rows_in rows) (unknown_key types fields literals type (rows_in rows)) q

    is_list : (inner : ℕ) (rows : List ℕ)
        → Comes (coerce_items pool names refs types fields nodes literals variables most_open deeper p inner rows) j → sort_of j ≡ a_container
    unfolding coerce_items sort_of
    is_list inner rows q = put_together most_open _ _ (λ js. refl) q

    module _ (s : Shape) (f : literal_form (literal_at literals row) ≡ shaped s) where
      of_named : (name : ℕ) (nullable : Bool) → type_ref_at refs ty ≡ ref.Named name nullable → (o : Option ℕ) → type_named types name ≡ o
          → Comes (coerce_named pool names refs types fields nodes literals variables most_open deeper p row s o) j → Became
      unfolding coerce_named when is_container named_container
      of_named name nullable e None i q = absurd (comes_failed literals error.UndefinedInputType row p q)
      of_named name nullable e (Some type) i q = go (is_input_object (type_at types type).kind) refl q
        where
          go : (b : Bool) → is_input_object (type_at types type).kind ≡ b
              → Comes (when b (input_object pool names refs types fields nodes literals variables most_open deeper p type row s)
              (part_by_part pool names literals most_open row)) j → Became
          go true k q = as_container s f (rw (e, i, k)) (is_object_lem type s q)
          go false k q = as_parts s f (rw (e, i, k)) q

      of_type : (t : TypeRef) → type_ref_at refs ty ≡ t
          → Comes (coerce_shape pool names refs types fields nodes literals variables most_open deeper p row s t) j → Became
      unfolding coerce_shape is_container
      of_type (ref.Named name nullable) e q = of_named name nullable e (type_named types name) refl q
      of_type (ref.ListOf inner nullable) e q = as_container s f (rw e) (is_list inner _ q)
      of_type ref.Unknown e q = absurd (comes_failed literals error.UndefinedInputType row p q)

  pub became : Echoed pool names refs types fields nodes literals variables ty row j → Became
  unfolding of_value coerce_literal
  became q =
      go (literal_form (literal_at literals row)) refl
      (rw (by_form pool names refs types fields nodes literals variables most_open ty row q.path) at q.comes)
    where
      go : (f : LiteralForm) → literal_form (literal_at literals row) ≡ f
          → Comes (coerce_literal pool names refs types fields nodes literals variables most_open (deeper q.path) q.path ty row f) j → Became
      go null_given h c =
          as_null h (comes_pure (not_failed (non_null refs ty) literals error.InnerNull row q.path (pure null) c))
      go (variable name) h c = absurd (q.shaped name h)
      go (shaped s) h c = of_type q.path s h (type_ref_at refs ty) refl c
