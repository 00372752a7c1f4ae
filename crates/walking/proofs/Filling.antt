-- A set that is partly run: numbered slots, which are filled one by one in the order that the choices say. A loop over the groups of a set goes by
-- these laws, whatever a group's run is. Assumes nothing.
use mathlib.Core.Path.{◌≡◌, refl, ap, ◌∙◌}
use Rattle.std.specs.Prelude.{Option, Some, None}
use mathlib.Core.List.{List, [], ◌∷◌}
use Prim.Native.Nat.{ℕ, zero, suc, ◌%◌, ◌≤◌, ◌<◌}
use native.Mathlib.Nat.{not-suc-le-zero, le_of_suc-le-suc, zero-mod}
use native.Mathlib.Omega.{arith}
use lib.ListN.{length, drop, get_or, set, replicate, drop_of_length-le, get_or-eq_default}
use lib.Seq.{drop-cons}
use Rattle.graphql.specs.Run.{Log, Choices, Res, done, M, after, pure, onward, ◌>>=◌, pick, the, others, put_back, taking}
use Rattle.graphql.proofs.Stable.{Took, nothing, one, Fate, f_stop, f_failed, f_done, fate}
use Rattle.walking.proofs.RunLaws.{pure_bind, bind_pure, bind_bind, bind_at}

-- ---- Slots

module _ {B : Type 0} where
  -- the slots' values, with those of `vs` in the empty ones
  unfoldable pub fill : List (Option B) → List B → List B
  fill [] vs = []
  fill (None ∷ os) [] = []
  fill (None ∷ os) (v ∷ vs) = v ∷ fill os vs
  fill (Some u ∷ os) vs = u ∷ fill os vs

  -- the groups whose slots are empty
  unfoldable pub opens : {G : Type 0} → List G → List (Option B) → List G
  opens [] os = []
  opens (g ∷ gs) [] = []
  opens (g ∷ gs) (None ∷ os) = g ∷ opens gs os
  opens (g ∷ gs) (Some v ∷ os) = opens gs os

  -- the empty slot that has j others before it
  unfoldable pub slot : List (Option B) → ℕ → ℕ
  slot [] j = 0
  slot (None ∷ os) zero = 0
  slot (None ∷ os) (suc j) = suc (slot os j)
  slot (Some v ∷ os) j = suc (slot os j)

  -- how many are empty
  unfoldable pub empties : List (Option B) → ℕ
  empties [] = 0
  empties (None ∷ os) = suc (empties os)
  empties (Some v ∷ os) = empties os

  -- The slot that a choice picks is there, and empty.
  pub open_slot : (os : List (Option B)) (j : ℕ) → j < empties os → (slot os j < length os) × (get_or os (slot os j) None ≡ None)
  unfolding slot empties
  open_slot [] j h = absurd (not-suc-le-zero h)
  open_slot (None ∷ os) zero h = (omega arith, refl)
  open_slot (None ∷ os) (suc j) h = let r = open_slot os j (le_of_suc-le-suc h) in (omega arith, r.1)
  open_slot (Some v ∷ os) j h = let r = open_slot os j h in (omega arith, r.1)

  -- Once it is filled, one less is empty.
  pub empties_set : (os : List (Option B)) (j : ℕ) (v : B) → j < empties os → empties os ≡ suc (empties (set os (slot os j) (Some v)))
  unfolding slot empties
  empties_set [] j v h = absurd (not-suc-le-zero h)
  empties_set (None ∷ os) zero v h = refl
  empties_set (None ∷ os) (suc j) v h = ap suc (empties_set os j v (le_of_suc-le-suc h))
  empties_set (Some u ∷ os) j v h = empties_set os j v h

  fill_back : (os : List (Option B)) (j : ℕ) (v : B) (vs : List B) → j < empties os → empties os ≡ suc (length vs)
      → fill os (put_back j v vs) ≡ fill (set os (slot os j) (Some v)) vs
  unfolding fill put_back empties slot
  fill_back [] j v vs h e = absurd (not-suc-le-zero h)
  fill_back (None ∷ os) zero v vs h e = refl
  fill_back (None ∷ os) (suc j) v [] h e = absurd (omega arith)
  fill_back (None ∷ os) (suc j) v (w ∷ vs) h e = ap (λ (l : List B). w ∷ l) (fill_back os j v vs (le_of_suc-le-suc h) (omega arith))
  fill_back (Some u ∷ os) j v vs h e = ap (λ (l : List B). u ∷ l) (fill_back os j v vs h e)

  module _ {G : Type 0} where
    -- what `opens` is where the empty slot with j others before it is that of g
    data Opened (gs : List G) (os : List (Option B)) (j : ℕ) (g : G) : List G → Type 0 where
      opened : {h : G} {hs : List G} → the j h hs ≡ g → ((v : B) → others j h hs ≡ opens gs (set os (slot os j) (Some v)))
          → suc (length hs) ≡ empties os → length (others j h hs) ≡ length hs → Opened gs os j g (h ∷ hs)

    cons_opened : (g : G) {gs : List G} {os : List (Option B)} {j : ℕ} {h : G} {l : List G} → Opened gs os j h l
        → Opened (g ∷ gs) (None ∷ os) (suc j) h (g ∷ l)
    unfolding the others opens slot empties
    cons_opened g (opened e o n m) = opened e (λ v. ap (λ (l : List G). g ∷ l) (o v)) (ap suc n) (ap suc m)

    skip_opened : (g : G) (u : B) {gs : List G} {os : List (Option B)} {j : ℕ} {h : G} {l : List G} → Opened gs os j h l
        → Opened (g ∷ gs) (Some u ∷ os) j h l
    unfolding opens slot empties
    skip_opened g u (opened e o n m) = opened e o n m

    length_opens : (gs : List G) (os : List (Option B)) → length gs ≡ length os → length (opens gs os) ≡ empties os
    unfolding opens empties
    length_opens [] [] l = refl
    length_opens [] (o ∷ os) l = absurd (omega arith)
    length_opens (g ∷ gs) [] l = absurd (omega arith)
    length_opens (g ∷ gs) (None ∷ os) l = ap suc (length_opens gs os (omega arith))
    length_opens (g ∷ gs) (Some v ∷ os) l = length_opens gs os (omega arith)

    open_one : (z : G) (gs : List G) (os : List (Option B)) (j : ℕ) → length gs ≡ length os → j < empties os
        → Opened gs os j (get_or gs (slot os j) z) (opens gs os)
    unfolding the others opens slot empties
    open_one z gs [] j l h = absurd (not-suc-le-zero h)
    open_one z [] (o ∷ os) j l h = absurd (omega arith)
    open_one z (g ∷ gs) (None ∷ os) zero l h = opened refl (λ v. refl) (ap suc (length_opens gs os (omega arith))) refl
    open_one z (g ∷ gs) (None ∷ os) (suc j) l h = cons_opened g (open_one z gs os j (omega arith) (le_of_suc-le-suc h))
    open_one z (g ∷ gs) (Some v ∷ os) j l h = skip_opened g v (open_one z gs os j (omega arith) h)

-- Before the first turn all are empty.
pub empties_all : (B : Type 0) (n : ℕ) → empties (replicate {A = Option B} n None) ≡ n
unfolding empties
empties_all B zero = refl
empties_all B (suc n) = ap suc (empties_all B n)

-- ---- What is left to do

module _ {G B : Type 0} (run : G → M B) where
  -- the groups of the empty slots are taken, and fill them
  unfoldable pub filling : ℕ → List G → List (Option B) → M (List B)
  filling k gs os = taking run k (opens gs os) >>= λ vs. pure (fill os vs)

  took_length : {gs : List G} {vs : List B} {w : Log} → Took run gs vs w → length vs ≡ length gs
  took_length nothing = refl
  took_length (one e t p) = ap suc (took_length t)

  onward_same : {C : Type 0} {gs : List G} {x : Res (List B)} {f k : List B → M C} → Fate run gs x
      → ((vs : List B) → length vs ≡ length gs → f vs ≡ k vs) → onward x f ≡ onward x k
  unfolding onward
  onward_same (f_stop e) h = refl
  onward_same (f_failed b) h = refl
  onward_same (f_done {vs = vs} {w = w} {c = c} t) h = ap (λ (m : M _). after w (m c)) (h vs (took_length t))

  -- What is done with the values may suppose that there are as many as groups.
  taking_same : {C : Type 0} (k : ℕ) (gs : List G) (f g : List B → M C) → length gs ≡ k → ((vs : List B) → length vs ≡ k → f vs ≡ g vs)
      → (taking run k gs >>= f) ≡ (taking run k gs >>= g)
  unfolding ◌>>=◌
  taking_same k gs f g l h = λ i c. onward_same (fate run k gs (omega arith) c) (λ vs e. h vs (e ∙ l)) i

  -- one group more, whatever is done with the values
  taking_one : {C : Type 0} (k : ℕ) (h : G) (hs : List G) (f : List B → M C) → (taking run (suc k) (h ∷ hs) >>= f)
      ≡ (pick (suc (length hs)) >>= λ j. run (the j h hs) >>= λ v. taking run k (others j h hs) >>= λ vs. f (put_back j v vs))
  unfolding taking
  taking_one {C} k h hs f =
      bind_bind (pick (suc (length hs))) _ f
      ∙ ap (λ (z : ℕ → M C). pick (suc (length hs)) >>= z) (λ i j. (
      bind_bind (run (the j h hs)) _ f
      ∙ ap (λ (z : B → M C). run (the j h hs) >>= z) (λ i v. (
      bind_bind (taking run k (others j h hs)) _ f
      ∙ ap (λ (z : List B → M C). taking run k (others j h hs) >>= z) (λ i vs. pure_bind (put_back j v vs) f i)
      ) i)
      ) i)

  filling_go : (k : ℕ) (os : List (Option B)) (gs : List G) (j : ℕ) (g : G) (l : List G) → Opened gs os j g l → empties os ≡ suc k → j < suc k
      → (x : Choices) {c : Choices} → pick (suc k) x ≡ done j [] c
      → (taking run (suc k) l >>= λ vs. pure (fill os vs)) x ≡ (run g >>= λ v. filling k gs (set os (slot os j) (Some v))) c
  unfolding filling
  filling_go k os gs j g l (opened {h} {hs} e o n len) z lt x {c} p =
      let m : length hs ≡ k = omega arith in
      let q : pick (suc (length hs)) x ≡ done j [] c = rw m p in
      ap (λ (m : M (List B)). m x) (taking_one k h hs (λ vs. pure (fill os vs)))
      ∙ bind_at (pick (suc (length hs))) _ x q
      ∙ (λ i. ◌>>=◌ (run (e i)) (λ v. each m v i) c)
    where
      each : length hs ≡ k → (v : B) → (taking run k (others j h hs) >>= λ vs. pure (fill os (put_back j v vs)))
          ≡ (taking run k (opens gs (set os (slot os j) (Some v))) >>= λ vs. pure (fill (set os (slot os j) (Some v)) vs))
      each m v =
          taking_same k (others j h hs) _ _ (len ∙ m) (λ vs l. ap pure (fill_back os j v vs (omega arith) (omega arith))) ∙ rw (o v)

  -- The next group is that of the slot that the choice picks: a turn of the loop.
  pub filling_next : (k : ℕ) (gs : List G) (os : List (Option B)) (j : ℕ) (d : G) → length gs ≡ length os → empties os ≡ suc k → j < suc k
      → (x : Choices) {c : Choices} → pick (suc k) x ≡ done j [] c
      → filling (suc k) gs os x ≡ (run (get_or gs (slot os j) d) >>= λ v. filling k gs (set os (slot os j) (Some v))) c
  unfolding filling
  filling_next k gs os j d s z lt x p = filling_go k os gs j _ _ (open_one d gs os j s (omega arith)) z lt x p

  opens_all : (gs : List G) → opens gs (replicate {A = Option B} (length gs) None) ≡ gs
  unfolding opens
  opens_all [] = refl
  opens_all (g ∷ gs) = ap (λ (l : List G). g ∷ l) (opens_all gs)

  fill_all : (vs : List B) → fill (replicate (length vs) None) vs ≡ vs
  unfolding fill
  fill_all [] = refl
  fill_all (v ∷ vs) = ap (λ (l : List B). v ∷ l) (fill_all vs)

  -- Where the loop begins.
  pub filling_begin : (gs : List G) (n : ℕ) → n ≡ length gs → filling n gs (replicate n None) ≡ taking run n gs
  unfolding filling
  filling_begin gs n e =
      rw (e, opens_all gs)
      (taking_same (length gs) gs _ pure refl (λ vs q. ap pure (rw (← q) (fill_all vs))) ∙ bind_pure (taking run (length gs) gs))

  -- Where it ends.
  pub filling_end : (gs : List G) (os : List (Option B)) → filling 0 gs os ≡ pure (fill os [])
  unfolding filling taking
  filling_end gs os = pure_bind [] _

-- ---- The next choice, at a place in the list of choices

-- One is left.
pub pick_at : (n : ℕ) (cs : List ℕ) (c : ℕ) → c < length cs → pick n (drop c cs) ≡ done (get_or cs c 0 % n) [] (drop (suc c) cs)
unfolding pick
pick_at n cs c h = rw (drop-cons cs c 0 h)

-- None is left.
pub pick_none : (n : ℕ) (cs : List ℕ) (c : ℕ) → length cs ≤ c → pick n (drop c cs) ≡ done (get_or cs c 0 % n) [] (drop c cs)
unfolding pick
pick_none n cs c h = rw (drop_of_length-le cs {i = c} h, get_or-eq_default cs 0 h, zero-mod)
