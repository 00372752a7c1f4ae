-- Parts that need no care: they come to their value whatever the choices are, log nothing, and take as many choices as they take in any case. A set
-- of such parts is one. Assumes nothing.
use mathlib.Core.Path.{◌≡◌, refl, sym, ap, ◌∙◌}
use mathlib.Core.List.{List, [], ◌∷◌}
use Prim.Native.Nat.{ℕ, zero, suc, ◌+◌, ◌%◌, ◌≤◌}
use native.Mathlib.Omega.{arith}
use lib.ListN.{length, drop, drop_of_length-le}
use lib.Seq.{drop-drop}
use Rattle.writing.specs.Wrote.{Wrote}
use Rattle.writing.proofs.WroteLaws.{stay}
use Rattle.graphql.specs.Run.{Path, given_up, Event, Choices, Res, done, M, pure, marked, mark, ◌>>=◌}
use Rattle.graphql.specs.Run.{pick, the, others, put_back, taking, any_order, in_order}
use Rattle.walking.specs.declared.state.State.{State}
use Rattle.std.specs.Prelude.{Ok}
use Rattle.walking.specs.Gives.{View, Gives}
use Rattle.walking.proofs.RunLaws.{bind_at}
use Rattle.walking.proofs.Ended.{words_none}
use Rattle.walking.proofs.Sofar.{Sofar, so_done}

-- It comes to `a`, logs nothing and takes k choices, as far as there are any.
pub record Plain {A : Type 0} (k : ℕ) (m : M A) (a : A) : Type 0 where
  pub plainly : (c : Choices) → m c ≡ done a [] (drop k c)

module _ {A : Type 0} where
  pub plain_pure : (a : A) → Plain 0 (pure a) a
  unfolding pure
  plain_pure a = record { plainly = λ c. refl }

  -- A set that is not given up.
  pub plain_mark : (e : Event) {k : ℕ} {m : M A} {a : A} → Plain k m a → Plain k (mark e m) a
  unfolding mark marked
  plain_mark e h = record { plainly = λ c. rw (h.plainly c) }

  -- How many it takes may be put in another way.
  pub plain_so : {k n : ℕ} {m : M A} {a : A} → k ≡ n → Plain k m a → Plain n m a
  plain_so e h = rw e at h

module _ {A B : Type 0} where
  -- One after another.
  pub plain_bind : {k n : ℕ} {m : M A} (f : A → M B) {a : A} {b : B} → Plain k m a → Plain n (f a) b → Plain (k + n) (m >>= f) b
  plain_bind {k} {n} {m} f {a} {b} h g = record {
    plainly = λ c. bind_at m f c (h.plainly c) ∙ g.plainly (drop k c) ∙ ap (λ (l : Choices). done b [] l) (drop-drop n k c);
  }

-- ---- Lists and sets

module _ {G B : Type 0} (run : G → M B) where
  -- Each of these comes plainly to its value, and together they take so many choices.
  pub data Plains : List G → ℕ → List B → Type 0 where
    nothing : Plains [] 0 []
    one : {g : G} {gs : List G} {k n : ℕ} {v : B} {vs : List B} → Plain k (run g) v → Plains gs n vs → Plains (g ∷ gs) (k + n) (v ∷ vs)

  -- The items of a list.
  pub plain_in_order : {gs : List G} {n : ℕ} {vs : List B} → Plains gs n vs → Plain n (in_order run gs) vs
  unfolding in_order
  plain_in_order nothing = plain_pure []
  plain_in_order (one {k = k} {n = n} h t) =
      plain_so (let e : k + (n + 0) ≡ k + n = omega arith in e) (plain_bind _ h (plain_bind _ (plain_in_order t) (plain_pure _)))

  -- one of the groups, and the others
  data Parted (i : ℕ) (g : G) (gs : List G) (n : ℕ) (vs : List B) : Type 0 where
    parted : {k m : ℕ} {v : B} {us : List B} → Plain k (run (the i g gs)) v → Plains (others i g gs) m us → put_back i v us ≡ vs → k + m ≡ n
        → length (others i g gs) ≡ length gs → Parted i g gs n vs

  part_more : {i : ℕ} {g h : G} {gs : List G} {k n : ℕ} {v : B} {vs : List B} → Plain k (run g) v → Parted i h gs n vs
      → Parted (suc i) g (h ∷ gs) (k + n) (v ∷ vs)
  unfolding the others put_back
  part_more {v = v} p (parted q t e s l) = parted q (one p t) (ap (λ (us : List B). v ∷ us) e) (omega arith) (ap suc l)

  part : (i : ℕ) {g : G} {gs : List G} {n : ℕ} {vs : List B} → Plains (g ∷ gs) n vs → Parted i g gs n vs
  unfolding the others put_back
  part zero (one p t) = parted p t refl refl refl
  part (suc i) (one p nothing) = parted p nothing refl refl refl
  part (suc i) (one p (one q t)) = part_more p (part i (one q t))

  picks : (n : ℕ) (c : Choices) → (i : ℕ) × (pick n c ≡ done i [] (drop 1 c))
  unfolding pick
  picks n [] = (0, refl)
  picks n (x ∷ c) = (x % n, refl)

  -- what is shown of k groups
  abbrev Takes : ℕ → Type 0
  Takes k = (gs : List G) (n : ℕ) (vs : List B) → length gs ≡ k → Plains gs n vs → Plain (k + n) (taking run k gs) vs

  module _ {k : ℕ} (fewer : Takes k) {g : G} {gs : List G} {n : ℕ} {vs : List B} (l : length gs ≡ k) where
    rest : (i : ℕ) → Parted i g gs n vs → Plain (k + n) (run (the i g gs) >>= λ v. taking run k (others i g gs) >>= λ us. pure (put_back i v us)) vs
    rest i (parted {k = j} {m = m} q u e s o) =
        let z : j + (k + m + 0) ≡ k + n = omega arith in
        rw (← e) (plain_so z (plain_bind _ q (plain_bind _ (fewer (others i g gs) m _ (o ∙ l) u) (plain_pure _))))

    turn : (c : Choices) → Plains (g ∷ gs) n vs → (i : ℕ) × (pick (suc (length gs)) c ≡ done i [] (drop 1 c))
        → taking run (suc k) (g ∷ gs) c ≡ done vs [] (drop (suc k + n) c)
    unfolding taking
    turn c t r =
        let z : 1 + (k + n) ≡ suc k + n = omega arith in
        bind_at (pick (suc (length gs))) _ c r.1 ∙ (rest r.0 (part r.0 t)).plainly (drop 1 c)
        ∙ ap (λ (l : Choices). done vs [] l) (drop-drop (k + n) 1 c ∙ ap (λ (j : ℕ). drop j c) z)

  -- The groups of a set, in whatever order the choices say: the values stand in the groups' own order, and each group has taken a choice more.
  pub plain_taking : (k : ℕ) (gs : List G) (n : ℕ) (vs : List B) → length gs ≡ k → Plains gs n vs → Plain (k + n) (taking run k gs) vs
  unfolding taking
  plain_taking zero [] n vs l nothing = plain_pure []
  plain_taking zero (g ∷ gs) n vs l t = absurd (omega arith)
  plain_taking (suc k) [] n vs l t = absurd (omega arith)
  plain_taking (suc k) (g ∷ gs) n vs l t = record { plainly = λ c. turn (plain_taking k) (omega arith) c t (picks (suc (length gs)) c) }

  pub plain_any_order : (p : Path) {gs : List G} {n : ℕ} {vs : List B} → Plains gs n vs → Plain (length gs + n) (any_order run p gs) vs
  unfolding any_order
  plain_any_order p {gs} h = plain_mark (given_up p) (plain_taking (length gs) gs _ _ refl h)

-- ---- At a call

-- choices past the end: there are none
pub none_past : (cs : Choices) (n : ℕ) → length cs ≤ n → drop (length cs) cs ≡ drop n cs
none_past cs n h = drop_of_length-le cs {i = length cs} (omega arith) ∙ sym (drop_of_length-le cs {i = n} h)

-- A plain part of a computation: what comes next goes on from the choices behind those that it takes, and nothing was noted.
pub so_plain : {A B : Type 0} (cs : Choices) {x : Res A} {e₀ e : List ℕ} {a₀ a c c' j : ℕ} (m : M B) (k : B → M A) {v : B} → Plain j m v
    → Sofar cs x e₀ a₀ (m >>= k) e a c → drop c' cs ≡ drop (c + j) cs → Sofar cs x e₀ a₀ (k v) e a c'
so_plain cs {e = e} {a = a} {c = c} {j = j} m k {v} h g o =
    so_done cs m k v [] (drop j (drop c cs)) g (h.plainly (drop c cs)) (o ∙ sym (drop-drop j c cs)) (rw words_none (stay e a))

-- A plain part whose value was written: its choices are passed over.
pub plain_gives : {A : Type 0} {U : View A} {k : ℕ} {m : M A} {v : A} → Plain k m v → {cs text text' errors : List ℕ} {s : State} {end choice top : ℕ}
    → drop choice cs ≡ drop (s.choice + k) cs → Wrote text text' s.at end (U.show v)
    → Gives U cs text errors s (m (drop s.choice cs))
    (record { what = Ok (U.says v); state = record { at = end; errs = s.errs; choice = choice; top = top } }) text' errors
plain_gives {k = k} h {cs} {errors = errors} {s = s} e w =
    rw (h.plainly (drop s.choice cs)) (record {
      what = refl;
      wrote = w;
      noted = rw words_none (stay errors s.errs);
      chosen = e ∙ sym (drop-drop k s.choice cs);
    })
