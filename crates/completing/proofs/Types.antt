-- A type by its reference, and an object against a type: each answer of the code is what the definition comes to. Assumes nothing.
use mathlib.Core.Path.{◌≡◌, refl, sym, ap, ◌∙◌}
use mathlib.Core.Bool.{Bool, true, false, cond}
use mathlib.Core.List.{List}
use mathlib.Core.Logic.{◌⊎◌, inl, inr}
use Rattle.std.specs.Prelude.{Option, Some, None, Ok, Err}
use Rattle.std.specs.Option.{ok_or}
use Prim.Native.Nat.{ℕ}
use lib.Dec.{eqb}
use Rattle.rows.specs.Schema.{type_ref_at, type_at}
use Rattle.rows.specs.declared.schema.TypeRef.{TypeRef}
use Rattle.rows.specs.declared.schema.TypeRef.TheVariants as ref
use Rattle.rows.specs.declared.schema.TypeDef.{TypeDef}
use Rattle.rows.specs.declared.schema.TypeKind.{TypeKind}
use Rattle.rows.specs.declared.schema.TypeKind.TheVariants as kind
use Rattle.rules.specs.Schema.{object_kind}
use Rattle.codes.specs.declared.errors.FieldError.{FieldError}
use Rattle.codes.specs.declared.errors.FieldError.TheVariants as error
use Rattle.graphql.specs.Run.{Path, pure, when}
use Rattle.graphql.specs.Lookup.{type_named, lists}
use Rattle.graphql.specs.Collect.{Group}
use Rattle.graphql.specs.Request.{Request}
use Rattle.graphql.specs.Complete.{field_error, type_defined, named_type, object_named, resolve_abstract_type, object_type}
use Rattle.completing.specs.Judged.{Typed, Lent, typed, NamesType, NamesObject, ObjectType, TypesAt, TypesObject}
use Rattle.completing.proofs.Binds.{pure_bind, error_bind}
use Rattle.completing.proofs.Request.{lent_ref, lent_type, lent_named, lent_lists}

-- ---- the type of a reference

module _ (refs types : List ℕ) {ty : ℕ} {x : TypeRef} (t : x ≡ type_ref_at refs ty) where
  pub ref_list : {inner : ℕ} {nullable : Bool} → x ≡ ref.ListOf inner nullable → NamesType refs types ty (Err error.ListTypeWithoutList)
  unfolding named_type
  ref_list e = record { comes = λ q g p. rw (lent_ref q ty, ← t, e) }

  pub ref_unknown : x ≡ ref.Unknown → NamesType refs types ty (Err error.UndefinedType)
  unfolding named_type
  ref_unknown e = record { comes = λ q g p. rw (lent_ref q ty, ← t, e) }

  pub ref_named : {name : ℕ} {nullable : Bool} → x ≡ ref.Named name nullable → (o : Option ℕ) → o ≡ type_named types name
      → NamesType refs types ty (ok_or o error.UndefinedType)
  unfolding named_type type_defined
  ref_named {name} e None n = record { comes = λ q g p. rw (lent_ref q ty, ← t, e, lent_named q name, ← n) }
  ref_named {name} e (Some row) n = record { comes = λ q g p. rw (lent_ref q ty, ← t, e, lent_named q name, ← n) }

-- ---- the object type of a name

no_object : (k : TypeKind) → (k ≡ kind.Object → ⊥) → object_kind k ≡ false
no_object kind.Scalar o = refl
no_object kind.Enum o = refl
no_object kind.Object o = absurd (o refl)
no_object kind.Interface o = refl
no_object kind.Union o = refl
no_object kind.InputObject o = refl
no_object kind.Unknown o = refl

-- a type that was found, if it is an object type
abbrev kept : Request → Option ℕ → Option ℕ
kept Q o = elim o as (λ o. Option ℕ) [ None ↦ None | Some type ↦ cond (object_kind (type_at Q.tables.types type).kind) (Some type) None ]

module _ {Q : Request} {pool names refs types members : List ℕ} (q : Lent Q pool names refs types members) (name : ℕ) where
  kept_none : type_named types name ≡ None → object_named Q name ≡ None
  unfolding object_named
  kept_none e = ap (kept Q) (lent_named q name ∙ e)

  kept_some : (row : ℕ) {b : Bool} → type_named types name ≡ Some row → object_kind (type_at types row).kind ≡ b
      → object_named Q name ≡ cond b (Some row) None
  unfolding object_named
  kept_some row e k =
      ap (kept Q) (lent_named q name ∙ e)
      ∙ ap (λ d. cond (object_kind d.kind) (Some row) None) (lent_type q row) ∙ ap (λ b. cond b (Some row) None) k

module _ (types : List ℕ) {name : ℕ} {o : Option ℕ} (n : o ≡ (type_named types name)) where
  pub object_absent : o ≡ None → NamesObject types name None
  object_absent a = record { finds = λ q. rw (kept_none q name (sym n ∙ a)); object = tt }

  module _ {row : ℕ} (f : o ≡ Some row) {d : TypeDef} (t : d ≡ type_at types row) where
    pub object_there : d.kind ≡ kind.Object → NamesObject types name (Some row)
    object_there k =
        let is : object_kind (type_at types row).kind ≡ true = rw (← t, k) in
        record { finds = λ q. rw (kept_some q name row (sym n ∙ f) is); object = is }

    pub object_other : (d.kind ≡ kind.Object → ⊥) → NamesObject types name None
    object_other k =
        let is : object_kind (type_at types row).kind ≡ false = rw (← t) (no_object d.kind k) in
        record { finds = λ q. rw (kept_some q name row (sym n ∙ f) is); object = tt }

-- ---- an object at a type

unknown : {o : Option ℕ} {e : FieldError} → o ≡ None → ◌≡◌ {A = Typed} (Err e) (ok_or o error.ObjectTypeUnknown) → e ≡ error.ObjectTypeUnknown
unknown a h = let w : ◌≡◌ {A = Typed} (Err _) (Err error.ObjectTypeUnknown) = rw a at h in cc

-- the definition's test is the answer's
tested : (Q : Request) (g : Group) (p : Path) (ok : Bool) (row : ℕ) (e : FieldError)
    → when ok (pure row) (field_error Q e g p) ≡ typed Q (cond ok (Ok row) (Err e)) g p
unfolding when
tested Q g p true row e = refl
tested Q g p false row e = refl

object_if : (types : List ℕ) (row : ℕ) (e : FieldError) (ok : Bool) → object_kind (type_at types row).kind ≡ true
    → ObjectType types (cond ok (Ok row) (Err e))
object_if types row e true o = o
object_if types row e false o = tt

module _ (types members : List ℕ) {type name : ℕ} where
  module _ {d : TypeDef} (t : d ≡ type_at types type) {r : Typed} where
    pub object_own : d.kind ≡ kind.Object → r ≡ cond (eqb name d.name) (Ok type) (Err error.OtherObjectType)
        → TypesAt types members type kind.Object name r
    unfolding object_type
    object_own k h = record {
      comes = λ q g p. rw (h, lent_type q type, ← t) (tested _ g p (eqb name d.name) type error.OtherObjectType);
      object = rw h (object_if types type error.OtherObjectType (eqb name d.name) (rw (← t, k)));
    }

    pub object_implements : {o : Option ℕ} {object : ℕ} {ok : Bool} → NamesObject types name o → o ≡ Some object
        → ok ≡ lists types members object d.name
        → r ≡ cond ok (Ok object) (Err error.NotImplementing) → TypesAt types members type kind.Interface name r
    unfolding object_type resolve_abstract_type
    object_implements {o} {object} {ok} n e l h = record {
      comes = λ q g p.
          rw (h, sym (n.finds q) ∙ e, lent_lists q object, lent_type q type, ← t, ← l)
          (tested _ g p ok object error.NotImplementing);
      object = rw h (object_if types object error.NotImplementing ok (rw e at n.object));
    }

  pub object_member : {o : Option ℕ} {object : ℕ} {ok : Bool} {r : Typed} → NamesObject types name o → o ≡ Some object
      → ok ≡ lists types members type name
      → r ≡ cond ok (Ok object) (Err error.NotInUnion) → TypesAt types members type kind.Union name r
  unfolding object_type resolve_abstract_type
  object_member {o} {object} {ok} n e l h = record {
    comes = λ q g p.
        rw (h, sym (n.finds q) ∙ e, lent_lists q type, ← l) (tested _ g p ok object error.NotInUnion);
    object = rw h (object_if types object error.NotInUnion ok (rw e at n.object));
  }

  module _ {o : Option ℕ} (n : NamesObject types name o) (a : o ≡ None) where
    module _ {e : FieldError} (h : ◌≡◌ {A = Typed} (Err e) (ok_or o error.ObjectTypeUnknown)) where
      pub interface_unknown : TypesAt types members type kind.Interface name (Err e)
      unfolding object_type resolve_abstract_type
      interface_unknown = record { comes = λ q g p. rw (sym (n.finds q) ∙ a, unknown a h); object = tt }

      pub union_unknown : TypesAt types members type kind.Union name (Err e)
      unfolding object_type resolve_abstract_type
      union_unknown = record { comes = λ q g p. rw (sym (n.finds q) ∙ a, unknown a h); object = tt }

  pub object_leaf : (k : TypeKind) → (k ≡ kind.Scalar) ⊎ (k ≡ kind.Enum) → TypesAt types members type k name (Err error.ObjectForLeafType)
  unfolding object_type
  object_leaf k (inl h) = rw h (record { comes = λ q g p. refl; object = tt })
  object_leaf k (inr h) = rw h (record { comes = λ q g p. refl; object = tt })

  pub object_input : TypesAt types members type kind.InputObject name (Err error.InputObjectType)
  unfolding object_type
  object_input = record { comes = λ q g p. refl; object = tt }

  pub object_unknown : TypesAt types members type kind.Unknown name (Err error.UndefinedType)
  unfolding object_type
  object_unknown = record { comes = λ q g p. refl; object = tt }

-- ---- the whole

module _ (refs types members : List ℕ) {ty name : ℕ} {t : Typed} (named : NamesType refs types ty t) where
  pub object_untyped : {e : FieldError} → t ≡ Err e → TypesObject refs types members ty name (Err e)
  object_untyped h = record { comes = λ q g p. rw (named.comes q g p, h) (error_bind _ _ _ g p); object = tt }

  pub object_typed : {type : ℕ} {r : Typed} → t ≡ Ok type → TypesAt types members type (type_at types type).kind name r
      → TypesObject refs types members ty name r
  object_typed {type} h a = record {
    comes = λ q g p. rw (named.comes q g p, h, pure_bind, lent_type q type) (a.comes q g p);
    object = a.object;
  }
