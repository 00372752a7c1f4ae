-- How a run ends that goes on from another, or that goes through several parts. Assumes nothing.
use Rattle.std.specs.Prelude.{Ok, Err}
use mathlib.Core.Path.{◌≡◌, refl}
use mathlib.Core.List.{List, [], ◌∷◌}
use Prim.Native.Nat.{ℕ}
use Rattle.graphql.specs.Run.{Path, M, pure, halt, fail, after, onward, in_order, ◌>>=◌}
use Rattle.codes.specs.Errors.{number_of, place_of}
use Rattle.graphql.specs.Errors.{place_among, error_of}
use Rattle.graphql.specs.Coerce.{fail_at}
use Rattle.codes.specs.declared.errors.FieldError.{FieldError}
use Rattle.codes.specs.declared.errors.PlaceKind.TheVariants.{Literal}
use Rattle.input_coercion.specs.Ends.{Coercion, literal_fails, Valued, Ends}
use Rattle.input_coercion.specs.declared.check.Uncoerced.{Uncoerced}
use Rattle.input_coercion.specs.declared.check.Uncoerced.TheVariants.{Failed, Stop}

pub value_pure : {A : Type 0} (a : A) → Valued (pure a)
unfolding pure
value_pure a = record { value = a; is = λ c. refl }

module _ {A B : Type 0} (p : Path) (m : M A) where
  -- what is made of a value changes nothing else
  pub ends_made : (f : A → B) (r : Coercion) → Ends p m r → Ends p (m >>= λ a. pure (f a)) r
  unfolding ◌>>=◌ onward after pure fail halt
  ends_made f (Ok u) q = record { value = f q.value; is = λ c. rw (q.is c) }
  ends_made f (Err (Failed e)) q = λ c. rw (q c)
  ends_made f (Err (Stop o)) q = λ c. rw (q c)

  -- a run that comes to a value ends as what follows it
  pub ends_after : (v : Valued m) (k : A → M B) (r : Coercion) → Ends p (k v.value) r → Ends p (m >>= k) r
  unfolding ◌>>=◌ onward after pure fail halt
  ends_after v k (Ok u) q = record { value = q.value; is = λ c. rw (v.is c, q.is c) }
  ends_after v k (Err (Failed e)) q = λ c. rw (v.is c, q c)
  ends_after v k (Err (Stop o)) q = λ c. rw (v.is c, q c)

  -- a run that does not is the end
  pub ends_stopped : (k : A → M B) (e : Uncoerced) → Ends p m (Err e) → Ends p (m >>= k) (Err e)
  unfolding ◌>>=◌ onward fail halt
  ends_stopped k (Failed f) q = λ c. rw (q c)
  ends_stopped k (Stop o) q = λ c. rw (q c)

-- parts in order
module _ {A : Type 0} (p : Path) (run : ℕ → M A) where
  pub ends_none : Ends p (in_order run []) (Ok tt)
  unfolding in_order
  ends_none = value_pure []

  module _ (row : ℕ) (rows : List ℕ) (r : Coercion) where
    pub ends_more : Ends p (run row) (Ok tt) → Ends p (in_order run rows) r → Ends p (in_order run (row ∷ rows)) r
    unfolding in_order
    ends_more v q = ends_after p (run row) v (λ a. in_order run rows >>= λ vs. pure (a ∷ vs)) r (ends_made p (in_order run rows) (λ vs. v.value ∷ vs) r q)

  pub ends_here : (row : ℕ) (rows : List ℕ) (e : Uncoerced) → Ends p (run row) (Err e) → Ends p (in_order run (row ∷ rows)) (Err e)
  unfolding in_order
  ends_here row rows e q = ends_stopped p (run row) (λ a. in_order run rows >>= λ vs. pure (a ∷ vs)) e q

-- an error at a literal
pub fails : {A : Type 0} (literals : List ℕ) (e : FieldError) (row : ℕ) (p : Path) → place_of (number_of e) ≡ Literal
    → Ends {A = A} p (fail_at literals e row p) (literal_fails literals e row)
unfolding fail_at error_of place_among fail
fails literals e row p h = λ c. rw h
