-- The errors of a completion stand at the first field: the record that the code notes there is the definition's. Assumes nothing.
use mathlib.Core.Path.{◌≡◌, refl, sym, ap, ◌∙◌}
use mathlib.Core.Bool.{Bool, true, false, cond, ◌&&◌}
use mathlib.Core.List.{List, [], ◌∷◌}
use Rattle.std.specs.Prelude.{Option, Some, None}
use Prim.Native.Nat.{ℕ}
use native.Mathlib.Omega.{arith}
use lib.Dec.{eqb}
use Rattle.rows.specs.Names.{'Int}
use Rattle.rows.specs.Schema.{type_ref_at, type_at}
use Rattle.rows.specs.declared.schema.TypeRef.{TypeRef}
use Rattle.rows.specs.declared.schema.TypeRef.TheVariants as ref
use Rattle.rows.specs.declared.schema.TypeKind.{TypeKind}
use Rattle.rows.specs.declared.schema.TypeKind.TheVariants as kind
use Rattle.codes.specs.Errors.{number_of, place_of}
use Rattle.codes.specs.declared.errors.FieldError.{FieldError}
use Rattle.codes.specs.declared.errors.FieldError.TheVariants as error
use Rattle.codes.specs.declared.errors.PlaceKind.TheVariants.{FirstField}
use Rattle.graphql.specs.Run.{Path, err, given_up, skipped, Res, stop, failed, done, M, pure, fail, when, ◌>>=◌}
use Rattle.graphql.specs.Json.{is_a, a_null, a_long, string_of}
use Rattle.graphql.specs.Data.{Val}
use Rattle.graphql.specs.Errors.{place_among, error_of}
use Rattle.graphql.specs.Lookup.{non_null, type_named}
use Rattle.graphql.specs.Collect.{Group}
use Rattle.graphql.specs.Request.{Request}
use Rattle.graphql.specs.Complete.{Leaf, takes, field_error, type_defined, named_type, scalar_leaf, enum_leaf, leaf_at, complete_leaf_value}
use Rattle.graphql.specs.Complete.{object_named, resolve_abstract_type, object_type}
use Rattle.completing.proofs.Binds.{pure_bind, error_bind}

-- the code of the first record, and whether there is a value
code_of : {A : Type 0} → Res A → ℕ
code_of (stop s w) = 0
code_of (failed r [] c) = 0
code_of (failed r (err x ∷ w) c) = x.code
code_of (failed r (given_up p ∷ w) c) = 0
code_of (failed r (skipped p ∷ w) c) = 0
code_of (done a w c) = 0

valued : {A : Type 0} → Res A → ℕ
valued (stop s w) = 0
valued (failed r w c) = 0
valued (done a w c) = 1

module _ (Q : Request) (g : Group) (p : Path) where
  -- It comes to a value, or to an error that stands at the first field.
  pub data AtField {A : Type 0} (m : M A) : Type 0 where
    to_value : (a : A) → m ≡ pure a → AtField m
    to_error : (e : FieldError) → place_of (number_of e) ≡ FirstField → m ≡ field_error Q e g p → AtField m

  -- So whatever error it is said to come to stands there.
  pub field_error_place : {A : Type 0} {m : M A} (e : FieldError) (x : ℕ) → AtField m → m ≡ field_error Q e g p
      → place_among (place_of (number_of e)) x 0 0 ≡ x
  unfolding code_of valued pure field_error fail error_of place_among
  field_error_place {A} e x (to_value a h) q =
      absurd (let z : ◌≡◌ {A = ℕ} 1 0 = ap (λ (m : M A). valued (m [])) (sym h ∙ q) in omega arith)
  field_error_place {A} e x (to_error e' o h) q =
      let n : number_of e ≡ number_of e' = ap (λ (m : M A). code_of (m [])) (sym q ∙ h) in
      rw (n, o)

  module _ {A : Type 0} where
    value : (a : A) → AtField (pure a)
    value a = to_value a refl

    test : (b : Bool) {m n : M A} → AtField m → AtField n → AtField (when b m n)
    unfolding when
    test true h k = h
    test false h k = k

    next : {B : Type 0} {m : M B} (k : B → M A) → AtField m → ((b : B) → AtField (k b)) → AtField (m >>= k)
    next k (to_value b h) f = rw (h, pure_bind k b) (f b)
    next k (to_error e o h) f = to_error e o (rw h (error_bind k Q e g p))

  defined : (o : Option ℕ) → AtField (type_defined Q o g p)
  unfolding type_defined place_of
  defined None = to_error error.UndefinedType refl refl
  defined (Some type) = value type

  named : (r : TypeRef) → AtField (named_type Q r g p)
  unfolding named_type place_of
  named (ref.Named n nullable) = defined (type_named Q.tables.types n)
  named (ref.ListOf inner nullable) = to_error error.ListTypeWithoutList refl refl
  named ref.Unknown = to_error error.UndefinedType refl refl

  -- ---- A leaf

  scalar : (n : ℕ) (l : Leaf) → AtField (scalar_leaf Q n l g p)
  unfolding scalar_leaf place_of
  scalar n l = test (takes n l.json) (value _) (either (eqb n 'Int && is_a a_long l.json))
    where
      either : (b : Bool) → AtField {A = Val} (field_error Q (cond b error.IntOverflow error.LeafOfAnotherKind) g p)
      either true = to_error error.IntOverflow refl refl
      either false = to_error error.LeafOfAnotherKind refl refl

  enum : (type : ℕ) (l : Leaf) (o : Option (List ℕ)) → AtField (enum_leaf Q type l o g p)
  unfolding enum_leaf place_of
  enum type l None = to_error error.NotAnEnumValue refl refl
  enum type l (Some s) = test _ (value _) (to_error error.NotAnEnumValue refl refl)

  leafs : (type : ℕ) (k : TypeKind) (l : Leaf) → AtField (leaf_at Q type k l g p)
  unfolding leaf_at place_of
  leafs type kind.Scalar l = scalar (type_at Q.tables.types type).name l
  leafs type kind.Enum l = enum type l (string_of l.json)
  leafs type kind.Object l = to_error error.LeafForComposite refl refl
  leafs type kind.Interface l = to_error error.LeafForComposite refl refl
  leafs type kind.Union l = to_error error.LeafForComposite refl refl
  leafs type kind.InputObject l = to_error error.InputObjectType refl refl
  leafs type kind.Unknown l = to_error error.UndefinedType refl refl

  pub leaf_at_field : (ty : ℕ) (l : Leaf) → AtField (complete_leaf_value Q ty l g p)
  unfolding complete_leaf_value place_of
  leaf_at_field ty l =
      test (is_a a_null l.json) (test (non_null Q.tables.refs ty) (to_error error.NullForNonNull refl refl) (value _))
      (next _ (named _) (λ type. leafs type _ l))

  -- ---- The type of an object

  abstract_type : (possible : ℕ → Bool) (e : FieldError) → place_of (number_of e) ≡ FirstField → (o : Option ℕ)
      → AtField (resolve_abstract_type Q possible e o g p)
  unfolding resolve_abstract_type place_of
  abstract_type possible e h None = to_error error.ObjectTypeUnknown refl refl
  abstract_type possible e h (Some type) = test (possible type) (value type) (to_error e h refl)

  objects : (type : ℕ) (k : TypeKind) (n : ℕ) → AtField (object_type Q type k n g p)
  unfolding object_type place_of
  objects type kind.Scalar n = to_error error.ObjectForLeafType refl refl
  objects type kind.Enum n = to_error error.ObjectForLeafType refl refl
  objects type kind.Object n = test _ (value type) (to_error error.OtherObjectType refl refl)
  objects type kind.Interface n = abstract_type _ error.NotImplementing refl (object_named Q n)
  objects type kind.Union n = abstract_type _ error.NotInUnion refl (object_named Q n)
  objects type kind.InputObject n = to_error error.InputObjectType refl refl
  objects type kind.Unknown n = to_error error.UndefinedType refl refl

  pub object_at_field : (ty n : ℕ)
      → AtField (named_type Q (type_ref_at Q.tables.refs ty) g p >>= λ type. object_type Q type (type_at Q.tables.types type).kind n g p)
  object_at_field ty n = next _ (named _) (λ type. objects type _ n)
