-- A run that came to a value came there by its parts. Assumes nothing.
use mathlib.Core.Path.{◌≡◌, refl, ◌∙◌}
use mathlib.Core.Bool.{Bool, true, false}
use mathlib.Core.List.{List, [], ◌∷◌}
use Prim.Native.Nat.{ℕ}
use native.Mathlib.Omega.{arith}
use lib.ListN.{length}
use Rattle.codes.specs.declared.errors.FieldError.{FieldError}
use Rattle.graphql.specs.Run.{Path, Log, Choices, M, Res, stop, failed, done, pure, halt, fail, when, after, onward, in_order, ◌>>=◌}
use Rattle.graphql.specs.Coerce.{fail_at}
use Rattle.echoing.specs.Echo.{Comes}

module _ {A : Type 0} {v : A} where
  pub comes_pure : {a : A} → Comes (pure a) v → a ≡ v
  unfolding pure
  comes_pure q = let e = q.is in cc

  pub comes_halt : (s : ℕ) → Comes (halt s) v → ⊥
  unfolding halt
  comes_halt s q = let e = q.is in let z : ◌≡◌ {A = ℕ} 0 1 = cc in omega arith

  pub comes_failed : (literals : List ℕ) (e : FieldError) (row : ℕ) (p : Path) → Comes (fail_at literals e row p) v → ⊥
  unfolding fail_at fail
  comes_failed literals e row p q = let h = q.is in let z : ◌≡◌ {A = ℕ} 0 1 = cc in omega arith

  -- it came to a value, so that it did not fail
  pub not_failed : (b : Bool) (literals : List ℕ) (e : FieldError) (row : ℕ) (p : Path) (m : M A) → Comes (when b (fail_at literals e row p) m) v
      → Comes m v
  unfolding when
  not_failed true literals e row p m q = absurd (comes_failed literals e row p q)
  not_failed false literals e row p m q = q

-- ---- one after another

pub record Bound {A B : Type 0} (m : M A) (k : A → M B) (b : B) : Type 0 where
  pub value : A
  pub first : Comes m value
  pub second : Comes (k value) b

module _ {A B : Type 0} (m : M A) (k : A → M B) (b : B) where
  pub bound : Comes (m >>= k) b → Bound m k b
  unfolding ◌>>=◌ onward after
  bound q = go (m q.from) refl q.is
    where
      next : (a : A) (w : Log) (d : Choices) → m q.from ≡ done a w d → (y : Res B) → k a d ≡ y → after w y ≡ done b q.log q.to → Bound m k b
      next a w d h (stop s u) i e = absurd (let z : ◌≡◌ {A = ℕ} 0 1 = cc in omega arith)
      next a w d h (failed r u f) i e = absurd (let z : ◌≡◌ {A = ℕ} 0 1 = cc in omega arith)
      next a w d h (done b' u f) i e =
          let s : b' ≡ b = cc in
          record {
            value = a;
            first = record { log = w; from = q.from; to = d; is = h };
            second = record { log = u; from = d; to = f; is = i ∙ rw s };
          }

      go : (x : Res A) → m q.from ≡ x → onward x k ≡ done b q.log q.to → Bound m k b
      go (stop s w) h e = absurd (let z : ◌≡◌ {A = ℕ} 0 1 = cc in omega arith)
      go (failed r w d) h e = absurd (let z : ◌≡◌ {A = ℕ} 0 1 = cc in omega arith)
      go (done a w d) h e = next a w d h (k a d) refl e

-- what is made of a value
pub record Made {A B : Type 0} (m : M A) (f : A → B) (b : B) : Type 0 where
  pub value : A
  pub first : Comes m value
  pub is : f value ≡ b

pub made : {A B : Type 0} (m : M A) (f : A → B) (b : B) → Comes (m >>= λ a. pure (f a)) b → Made m f b
made m f b q =
    let p = bound m (λ a. pure (f a)) b q in
    record { value = p.value; first = p.first; is = comes_pure p.second }

-- ---- several in order

pub record More {A : Type 0} (run : ℕ → M A) (row : ℕ) (rows : List ℕ) (vs : List A) : Type 0 where
  pub head : A
  pub tail : List A
  pub here : Comes (run row) head
  pub there : Comes (in_order run rows) tail
  pub are : vs ≡ head ∷ tail

module _ {A : Type 0} (run : ℕ → M A) where
  pub comes_none : {vs : List A} → Comes (in_order run []) vs → vs ≡ []
  unfolding in_order
  comes_none {vs} q = let e : ◌≡◌ {A = List A} [] vs = comes_pure q in cc

  pub comes_more : (row : ℕ) (rows : List ℕ) {vs : List A} → Comes (in_order run (row ∷ rows)) vs → More run row rows vs
  unfolding in_order
  comes_more row rows {vs} q =
      let p = bound (run row) (λ v. in_order run rows >>= λ ws. pure (v ∷ ws)) vs q in
      let n = made (in_order run rows) (λ ws. p.value ∷ ws) vs p.second in
      let e = n.is in
      record { head = p.value; tail = n.value; here = p.first; there = n.first; are = cc }

  pub comes_long : (rows : List ℕ) {vs : List A} → Comes (in_order run rows) vs → length vs ≡ length rows
  comes_long [] q = rw (comes_none q)
  comes_long (row ∷ rows) q = let m = comes_more row rows q in rw (m.are, comes_long rows m.there)
