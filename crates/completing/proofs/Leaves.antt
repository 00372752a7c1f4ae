-- A leaf against a type: each answer of the code is what the definition comes to. Assumes nothing.
use mathlib.Core.Path.{◌≡◌, refl, sym, ◌∙◌}
use mathlib.Core.Bool.{Bool, true, false, cond, decide}
use mathlib.Core.List.{List}
use Rattle.std.specs.Prelude.{Some, Ok, Err}
use Prim.Native.Nat.{ℕ}
use lib.Dec.{eqb}
use borrow.Author.Tests.{ne_eqb}
use Rattle.rows.specs.Names.{'Int, 'Float, 'String, 'Boolean, 'ID}
use Rattle.rows.specs.Schema.{type_at}
use Rattle.rows.specs.declared.schema.TypeDef.{TypeDef}
use Rattle.rows.specs.declared.schema.TypeKind.{TypeKind}
use Rattle.rows.specs.declared.schema.TypeKind.TheVariants as kind
use Rattle.codes.specs.declared.errors.FieldError.{FieldError}
use Rattle.codes.specs.declared.errors.FieldError.TheVariants as error
use Rattle.graphql.specs.Run.{Path, pure, when}
use Rattle.graphql.specs.Json.{Json, string_of, sort_of}
use Rattle.graphql.specs.Json as defined
use Rattle.graphql.specs.Data.{val, leaf}
use Rattle.graphql.specs.Lookup.{non_null, has_value}
use Rattle.graphql.specs.Collect.{Group}
use Rattle.graphql.specs.Request.{Request}
use Rattle.graphql.specs.Complete.{Leaf, field_error, takes, scalar_leaf, enum_leaf, leaf_at, complete_leaf_value}
use Rattle.values.specs.Plain.{said}
use Rattle.values.specs.declared.sort.Sort.{Sort}
use Rattle.values.specs.declared.sort.Sort.TheVariants as sorts
use Rattle.completing.specs.Judged.{Verdict, Typed, Lent, Shown, judged, is, fitting, int_taken, id_taken, JudgesScalar, JudgesAt, JudgesLeaf, NamesType}
use Rattle.completing.proofs.Binds.{pure_bind, error_bind}
use Rattle.completing.proofs.Request.{lent_non_null, lent_type}
use Rattle.completing.proofs.Sorts.{is_it, is_not, null_is, string_there, string_gone}

-- the definition's test is the verdict's
tested : (Q : Request) (l : Leaf) (g : Group) (p : Path) (ok : Bool) (e : FieldError)
    → when ok (pure (val (leaf l.json))) (field_error Q e g p) ≡ judged Q (cond ok (Ok tt) (Err e)) l g p
unfolding when
tested Q l g p true e = refl
tested Q l g p false e = refl

-- ---- scalars

module _ {name : ℕ} {sort : Sort} {r : Verdict} where
  pub scalar_int : name ≡ 'Int → r ≡ int_taken sort → JudgesScalar name sort r
  unfolding takes
  scalar_int n e = record { tells = λ j s. rw (n, e, is_it j s defined.an_int, is_it j s defined.a_long) }

  -- a scalar other than Int
  by_test : {ok : Bool} → eqb name 'Int ≡ false → ((j : Json) → said (sort_of j) ≡ sort → takes name j ≡ ok) → r ≡ fitting ok
      → JudgesScalar name sort r
  by_test n t e = record { tells = λ j s. rw (n, e, t j s) }

  module _ {ok : Bool} (e : r ≡ fitting ok) where
    pub scalar_float : name ≡ 'Float → ok ≡ is defined.a_float sort → JudgesScalar name sort r
    unfolding takes
    scalar_float n o = by_test {ok = ok} (rw n) (λ j s. rw (n, o) (is_it j s defined.a_float)) e

    pub scalar_string : name ≡ 'String → ok ≡ is defined.a_string sort → JudgesScalar name sort r
    unfolding takes
    scalar_string n o = by_test {ok = ok} (rw n) (λ j s. rw (n, o) (is_it j s defined.a_string)) e

    pub scalar_boolean : name ≡ 'Boolean → ok ≡ is defined.a_boolean sort → JudgesScalar name sort r
    unfolding takes
    scalar_boolean n o = by_test {ok = ok} (rw n) (λ j s. rw (n, o) (is_it j s defined.a_boolean)) e

    pub scalar_id : name ≡ 'ID → ok ≡ id_taken sort → JudgesScalar name sort r
    unfolding takes
    scalar_id n o =
        by_test {ok = ok} (rw n) (λ j s. rw (n, o, is_it j s defined.a_string, is_it j s defined.an_int, is_it j s defined.a_long)) e

  pub scalar_other : (name ≡ 'Int → ⊥) → (name ≡ 'Float → ⊥) → (name ≡ 'String → ⊥) → (name ≡ 'Boolean → ⊥) → (name ≡ 'ID → ⊥)
      → r ≡ (Ok tt) → JudgesScalar name sort r
  unfolding takes
  scalar_other i f s b d e =
      by_test {ok = true} (ne_eqb _ _ i) (λ j k. rw (ne_eqb _ _ i, ne_eqb _ _ f, ne_eqb _ _ s, ne_eqb _ _ b, ne_eqb _ _ d)) e

-- ---- enums, and every kind

module _ (pool names types members : List ℕ) {type : ℕ} {sort : Sort} {string : List ℕ} where
  module _ {found : Bool} {r : Verdict} where
    pub enum_string : {told : Bool} → told ≡ is defined.a_string sort → told ≡ true → found ≡ has_value pool names types members type string
        → r ≡ cond found (Ok tt) (Err error.NotAnEnumValue) → JudgesAt pool names types members type kind.Enum sort string r
    unfolding leaf_at enum_leaf
    enum_string t y f e = record {
      comes = λ q l s g p. go q l s g p (string_there l.json (is_it l.json s.sorted defined.a_string ∙ sym t ∙ y));
    }
      where
        go : {Q : Request} {refs : List ℕ} → Lent Q pool names refs types members → (l : Leaf) → Shown l sort string → (g : Group) (p : Path)
            → (b : List ℕ) × (string_of l.json ≡ Some b) → leaf_at Q type kind.Enum l g p ≡ judged Q r l g p
        go {Q} q l s g p (b, h) =
            let has : has_value Q.tables.pool Q.tables.names Q.tables.types Q.tables.members type string ≡ found
            = rw (q.of_pool, q.of_names, q.of_types, q.of_members) (sym f) in
            rw (e, h, s.spelled b h, has) (tested Q l g p found error.NotAnEnumValue)

  pub enum_other : {told : Bool} → told ≡ is defined.a_string sort → told ≡ false
      → JudgesAt pool names types members type kind.Enum sort string (Err error.NotAnEnumValue)
  unfolding leaf_at enum_leaf
  enum_other t y = record { comes = λ q l s g p. rw (string_gone l.json (is_it l.json s.sorted defined.a_string ∙ sym t ∙ y)) }

  pub at_scalar : {d : TypeDef} {r : Verdict} → d ≡ type_at types type → JudgesScalar d.name sort r
      → JudgesAt pool names types members type kind.Scalar sort string r
  unfolding leaf_at scalar_leaf
  at_scalar t a = record { comes = λ q l s g p. rw (lent_type q type, ← t, a.tells l.json s.sorted) (tested _ l g p _ _) }

  pub at_input : JudgesAt pool names types members type kind.InputObject sort string (Err error.InputObjectType)
  unfolding leaf_at
  at_input = record { comes = λ q l s g p. refl }

  pub at_unknown : JudgesAt pool names types members type kind.Unknown sort string (Err error.UndefinedType)
  unfolding leaf_at
  at_unknown = record { comes = λ q l s g p. refl }

  pub at_composite : (k : TypeKind) → (k ≡ kind.Scalar → ⊥) → (k ≡ kind.Enum → ⊥) → (k ≡ kind.InputObject → ⊥) → (k ≡ kind.Unknown → ⊥)
      → JudgesAt pool names types members type k sort string (Err error.LeafForComposite)
  unfolding leaf_at
  at_composite kind.Scalar a b c d = absurd (a refl)
  at_composite kind.Enum a b c d = absurd (b refl)
  at_composite kind.Object a b c d = record { comes = λ q l s g p. refl }
  at_composite kind.Interface a b c d = record { comes = λ q l s g p. refl }
  at_composite kind.Union a b c d = record { comes = λ q l s g p. refl }
  at_composite kind.InputObject a b c d = absurd (c refl)
  at_composite kind.Unknown a b c d = absurd (d refl)

-- ---- the whole

module _ (pool names refs types members : List ℕ) {ty : ℕ} {sort : Sort} {string : List ℕ} where
  pub leaf_null : {r : Verdict} → sort ≡ sorts.Null → r ≡ cond (non_null refs ty) (Err error.NullForNonNull) (Ok tt)
      → JudgesLeaf pool names refs types members ty sort string r
  unfolding complete_leaf_value when decide
  leaf_null n e = record {
    comes = λ q l s g p.
        rw (is_it l.json s.sorted defined.a_null, n, lent_non_null q ty, e)
        (go _ l (null_is l.json (s.sorted ∙ n)) g p (non_null refs ty));
  }
    where
      go : (Q : Request) (l : Leaf) → l.json ≡ defined.null → (g : Group) (p : Path) (b : Bool)
          → when b (field_error Q error.NullForNonNull g p) (pure (val (leaf defined.null)))
          ≡ judged Q (cond b (Err error.NullForNonNull) (Ok tt)) l g p
      go Q l z g p true = refl
      go Q l z g p false = rw z

  module _ (o : sort ≡ sorts.Null → ⊥) {t : Typed} (named : NamesType refs types ty t) where
    pub leaf_untyped : {e : FieldError} → t ≡ Err e → JudgesLeaf pool names refs types members ty sort string (Err e)
    unfolding complete_leaf_value when
    leaf_untyped h = record {
      comes = λ q l s g p.
          rw (is_it l.json s.sorted defined.a_null, is_not defined.a_null sort o, named.comes q g p, h) (error_bind _ _ _ g p);
    }

    pub leaf_typed : {type : ℕ} {r : Verdict} → t ≡ Ok type
        → JudgesAt pool names types members type (type_at types type).kind sort string r
        → JudgesLeaf pool names refs types members ty sort string r
    unfolding complete_leaf_value when
    leaf_typed {type} h a = record {
      comes = λ q l s g p.
          rw (is_it l.json s.sorted defined.a_null, is_not defined.a_null sort o, named.comes q g p, h, pure_bind, lent_type q type)
          (a.comes q l s g p);
    }
