-- Which sort a leaf has, by what the code is told of it. Assumes nothing.
use mathlib.Core.Path.{◌≡◌, refl, sym, ap, ◌∙◌}
use mathlib.Core.Bool.{Bool, true, false, cond, decide}
use mathlib.Core.List.{List}
use Rattle.std.specs.Prelude.{Some, None}
use Prim.Native.Nat.{ℕ}
use native.Mathlib.Omega.{arith}
use lib.Dec.{ltb, leb}
use denote.Enum.Bare.{sameb}
use Rattle.graphql.specs.Json.{Json, null, bool, natural, negative, float, string, array, object, sort_of, is_a, string_of, sort-discrete}
use Rattle.graphql.specs.Json as defined
use Rattle.values.specs.Plain.{said}
use Rattle.values.specs.declared.sort.Sort.{Sort}
use Rattle.values.specs.declared.sort.Sort.TheVariants as sort
use Rattle.values.specs.contracts.sort.Sort.{the_type}
use Rattle.completing.specs.Judged.{meant, is}

meant_said : (s : defined.Sort) → meant (said s) ≡ s
meant_said defined.a_null = refl
meant_said defined.a_boolean = refl
meant_said defined.an_int = refl
meant_said defined.a_long = refl
meant_said defined.a_huge = refl
meant_said defined.a_float = refl
meant_said defined.a_string = refl
meant_said defined.a_container = refl

said_meant : (s : Sort) → said (meant s) ≡ s
said_meant sort.Null = refl
said_meant sort.Boolean = refl
said_meant sort.Int = refl
said_meant sort.Long = refl
said_meant sort.Huge = refl
said_meant sort.Float = refl
said_meant sort.String = refl
said_meant sort.Container = refl

module _ (j : Json) {s : Sort} (e : said (sort_of j) ≡ s) where
  pub sort_is : sort_of j ≡ meant s
  sort_is = sym (meant_said (sort_of j)) ∙ ap meant e

  pub is_it : (k : defined.Sort) → is_a k j ≡ is k s
  unfolding is_a
  is_it k = rw sort_is

-- a sort that is another
pub is_not : (k : defined.Sort) (s : Sort) → (s ≡ said k → ⊥) → is k s ≡ false
unfolding decide
is_not k s o = go (sort-discrete k (meant s))
  where
    go : (d : Dec (k ≡ meant s)) → decide d ≡ false
    go (yes e) = absurd (o (sym (ap said e ∙ said_meant s)))
    go (no d) = refl

-- two sorts are the same just if the code finds them so
pub sames : (k s : Sort) → sameb the_type s k ≡ is (meant k) s
unfolding decide
sames sort.Null sort.Null = refl
sames sort.Boolean sort.Boolean = refl
sames sort.Int sort.Int = refl
sames sort.Long sort.Long = refl
sames sort.Huge sort.Huge = refl
sames sort.Float sort.Float = refl
sames sort.String sort.String = refl
sames sort.Container sort.Container = refl
sames k s = refl

-- ---- a null, and a string

-- the sorts of numbers without a point
abbrev whole : defined.Sort → Bool
whole defined.a_null = false
whole defined.a_boolean = false
whole defined.an_int = true
whole defined.a_long = true
whole defined.a_huge = true
whole defined.a_float = false
whole defined.a_string = false
whole defined.a_container = false

natural_whole : (n : ℕ) → whole (sort_of (natural n)) ≡ true
unfolding sort_of
natural_whole n = go (ltb n 2147483648) (ltb n 9223372036854775808)
  where
    go : (a b : Bool) → whole (cond a defined.an_int (cond b defined.a_long defined.a_huge)) ≡ true
    go true b = refl
    go false true = refl
    go false false = refl

negative_whole : (n : ℕ) → whole (sort_of (negative n)) ≡ true
unfolding sort_of
negative_whole n = go (leb n 2147483648)
  where
    go : (a : Bool) → whole (cond a defined.an_int defined.a_long) ≡ true
    go true = refl
    go false = refl

never : {A : Type 0} (j : Json) {k : defined.Sort} → whole (sort_of j) ≡ true → sort_of j ≡ k → whole k ≡ false → A
never j h e w = absurd (let z : true ≡ false = sym h ∙ rw e w in let z' : ◌≡◌ {A = ℕ} 0 1 = cc in omega arith)

decided : (s : defined.Sort) → decide (sort-discrete defined.a_string s) ≡ true → s ≡ defined.a_string
unfolding decide
decided s e = go (sort-discrete defined.a_string s) e
  where
    go : (d : Dec (defined.a_string ≡ s)) → decide d ≡ true → s ≡ defined.a_string
    go (yes h) e = sym h
    go (no h) e = absurd (let z : ◌≡◌ {A = ℕ} 0 1 = cc in omega arith)

pub null_is : (j : Json) → said (sort_of j) ≡ sort.Null → j ≡ null
unfolding sort_of
null_is null e = refl
null_is (bool b) e = absurd (let z : ◌≡◌ {A = ℕ} 0 1 = cc in omega arith)
null_is (natural n) e = never (natural n) (natural_whole n) (sort_is (natural n) e) refl
null_is (negative n) e = never (negative n) (negative_whole n) (sort_is (negative n) e) refl
null_is (float s) e = absurd (let z : ◌≡◌ {A = ℕ} 0 1 = cc in omega arith)
null_is (string s) e = absurd (let z : ◌≡◌ {A = ℕ} 0 1 = cc in omega arith)
null_is (array s) e = absurd (let z : ◌≡◌ {A = ℕ} 0 1 = cc in omega arith)
null_is (object s) e = absurd (let z : ◌≡◌ {A = ℕ} 0 1 = cc in omega arith)

-- the bytes of a string
pub string_there : (j : Json) → is_a defined.a_string j ≡ true → (bytes : List ℕ) × (string_of j ≡ Some bytes)
unfolding is_a sort_of decide string_of
string_there null e = absurd (let z : ◌≡◌ {A = ℕ} 0 1 = cc in omega arith)
string_there (bool b) e = absurd (let z : ◌≡◌ {A = ℕ} 0 1 = cc in omega arith)
string_there (natural n) e = never (natural n) (natural_whole n) (decided (sort_of (natural n)) e) refl
string_there (negative n) e = never (negative n) (negative_whole n) (decided (sort_of (negative n)) e) refl
string_there (float s) e = absurd (let z : ◌≡◌ {A = ℕ} 0 1 = cc in omega arith)
string_there (string s) e = (s, refl)
string_there (array s) e = absurd (let z : ◌≡◌ {A = ℕ} 0 1 = cc in omega arith)
string_there (object s) e = absurd (let z : ◌≡◌ {A = ℕ} 0 1 = cc in omega arith)

pub string_gone : (j : Json) → is_a defined.a_string j ≡ false → string_of j ≡ None
unfolding is_a sort_of decide string_of
string_gone null e = refl
string_gone (bool b) e = refl
string_gone (natural n) e = refl
string_gone (negative n) e = refl
string_gone (float s) e = refl
string_gone (string s) e = absurd (let z : ◌≡◌ {A = ℕ} 0 1 = cc in omega arith)
string_gone (array s) e = refl
string_gone (object s) e = refl
