-- What the functions that judge a leaf or an object ensure, by the definition of CompleteValue: the completion comes to what is said here of
-- their answer, in every request that has the tables lent, for every leaf that looks so to the code, at every place.
use Rattle.std.specs.Prelude.{◌≡◌, Bool, true, cond, ◌&&◌, ◌||◌, List, ℕ, eqb}
use Rattle.std.proofs.Math.Bool.{decide}
use Rattle.std.specs.Prelude.{Option, Some, None, Result, Ok, Err}
use Rattle.rows.specs.Names.{'Int}
use Rattle.rows.specs.Schema.{type_ref_at, type_at}
use Rattle.rows.specs.declared.schema.TypeKind.{TypeKind}
use Rattle.rules.specs.Schema.{object_kind}
use Rattle.codes.specs.declared.errors.FieldError.{FieldError}
use Rattle.codes.specs.declared.errors.FieldError.TheVariants as error
use Rattle.graphql.specs.Run.{Path, M, pure, ◌>>=◌}
use Rattle.graphql.specs.Json.{Json, sort_of, is_a, string_of, sort-discrete}
use Rattle.graphql.specs.Json as defined
use Rattle.graphql.specs.Data.{Val, val, leaf}
use Rattle.graphql.specs.Collect.{Group}
use Rattle.graphql.specs.Request.{Request}
use Rattle.graphql.specs.Complete.{Leaf, takes, field_error, named_type, leaf_at, complete_leaf_value, object_named, object_type}
use Rattle.values.specs.Plain.{said}
use Rattle.values.specs.declared.sort.Sort.{Sort}
use Rattle.values.specs.declared.sort.Sort.TheVariants as sort

-- the tables of the request are those lent
pub record Lent (Q : Request) (pool names refs types members : List ℕ) : Type 0 where
  pub of_pool : Q.tables.pool ≡ pool
  pub of_names : Q.tables.names ≡ names
  pub of_refs : Q.tables.refs ≡ refs
  pub of_types : Q.tables.types ≡ types
  pub of_members : Q.tables.members ≡ members

-- how a leaf looks to the code: its sort, and its bytes where it is a string
pub record Shown (l : Leaf) (sort : Sort) (string : List ℕ) : Type 0 where
  pub sorted : said (sort_of l.json) ≡ sort
  pub spelled : (s : List ℕ) → string_of l.json ≡ Some s → s ≡ string

-- ---- What an answer says

-- whether a value fits, and a type: or which error it is
abbrev pub Verdict : Type 0
Verdict = Result (Unit {0}) FieldError

abbrev pub Typed : Type 0
Typed = Result ℕ FieldError

-- a leaf that fits is its own value; another is an error at the first field
abbrev pub judged : Request → Verdict → Leaf → Group → Path → M Val
judged Q (Ok u) l g p = pure (val (leaf l.json))
judged Q (Err e) l g p = field_error Q e g p

-- a type, or an error at the first field
abbrev pub typed : Request → Typed → Group → Path → M ℕ
typed Q (Ok type) g p = pure type
typed Q (Err e) g p = field_error Q e g p

-- ---- The sort of a leaf

-- the definition's word for a sort
abbrev pub meant : Sort → defined.Sort
meant sort.Null = defined.a_null
meant sort.Boolean = defined.a_boolean
meant sort.Int = defined.an_int
meant sort.Long = defined.a_long
meant sort.Huge = defined.a_huge
meant sort.Float = defined.a_float
meant sort.String = defined.a_string
meant sort.Container = defined.a_container

-- whether it is this one
abbrev pub is : defined.Sort → Sort → Bool
is kind s = decide (sort-discrete kind (meant s))

-- what the scalars take, by the sort alone
abbrev pub fitting : Bool → Verdict
fitting ok = cond ok (Ok tt) (Err error.LeafOfAnotherKind)

abbrev pub int_taken : Sort → Verdict
int_taken s = cond (is defined.an_int s) (Ok tt) (Err (cond (is defined.a_long s) error.IntOverflow error.LeafOfAnotherKind))

abbrev pub id_taken : Sort → Bool
id_taken s = is defined.a_string s || (is defined.an_int s || is defined.a_long s)

-- ---- Leaves

-- a scalar type of this name takes the value; or it doesn't, and this is the error
abbrev pub scalar_verdict : (name : ℕ) → Json → Verdict
scalar_verdict name j =
    cond (takes name j) (Ok tt) (Err (cond (eqb name 'Int && is_a defined.a_long j) error.IntOverflow error.LeafOfAnotherKind))

pub record JudgesScalar (name : ℕ) (sort : Sort) (r : Verdict) : Type 0 where
  pub tells : (j : Json) → said (sort_of j) ≡ sort → r ≡ scalar_verdict name j

-- a leaf that is no null, at a type of this kind
pub record JudgesAt (pool names types members : List ℕ) (type : ℕ) (kind : TypeKind) (sort : Sort) (string : List ℕ) (r : Verdict) : Type 0 where
  pub comes : {Q : Request} {refs : List ℕ} → Lent Q pool names refs types members → (l : Leaf) → Shown l sort string
      → (g : Group) (p : Path) → leaf_at Q type kind l g p ≡ judged Q r l g p

-- any leaf, at a type reference
pub record JudgesLeaf (pool names refs types members : List ℕ) (ty : ℕ) (sort : Sort) (string : List ℕ) (r : Verdict) : Type 0 where
  pub comes : {Q : Request} → Lent Q pool names refs types members → (l : Leaf) → Shown l sort string
      → (g : Group) (p : Path) → complete_leaf_value Q ty l g p ≡ judged Q r l g p

-- ---- Types

-- the type at which a leaf or an object is completed
pub record NamesType (refs types : List ℕ) (ty : ℕ) (r : Typed) : Type 0 where
  pub comes : {Q : Request} {pool names members : List ℕ} → Lent Q pool names refs types members
      → (g : Group) (p : Path) → named_type Q (type_ref_at Q.tables.refs ty) g p ≡ typed Q r g p

-- a row that is there is an object type
abbrev pub ObjectRow : (types : List ℕ) → Option ℕ → Type 0
ObjectRow types None = Unit {0}
ObjectRow types (Some type) = object_kind (type_at types type).kind ≡ true

-- the object type of this name
pub record NamesObject (types : List ℕ) (name : ℕ) (r : Option ℕ) : Type 0 where
  pub finds : {Q : Request} {pool names refs members : List ℕ} → Lent Q pool names refs types members → r ≡ (object_named Q name)
  pub object : ObjectRow types r

-- a type that is told is an object type
abbrev pub ObjectType : (types : List ℕ) → Typed → Type 0
ObjectType types (Ok type) = object_kind (type_at types type).kind ≡ true
ObjectType types (Err e) = Unit {0}

-- an object of the type of this name, at a type of this kind
pub record TypesAt (types members : List ℕ) (type : ℕ) (kind : TypeKind) (name : ℕ) (r : Typed) : Type 0 where
  pub comes : {Q : Request} {pool names refs : List ℕ} → Lent Q pool names refs types members
      → (g : Group) (p : Path) → object_type Q type kind name g p ≡ typed Q r g p
  pub object : ObjectType types r

-- such an object, at a type reference
pub record TypesObject (refs types members : List ℕ) (ty name : ℕ) (r : Typed) : Type 0 where
  pub comes : {Q : Request} {pool names : List ℕ} → Lent Q pool names refs types members → (g : Group) (p : Path)
      → (named_type Q (type_ref_at Q.tables.refs ty) g p >>= λ type. object_type Q type (type_at Q.tables.types type).kind name g p)
      ≡ typed Q r g p
  pub object : ObjectType types r
