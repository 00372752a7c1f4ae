-- The laws of the monad of runs, as equalities: a loop goes through a computation from left to right by them. Assumes nothing.
use mathlib.Core.Path.{◌≡◌, refl, sym, ap, ◌∙◌}
use mathlib.Core.List.{List, [], ◌∷◌, ◌++◌, append_assoc, append-nil}
use Rattle.graphql.specs.Run.{Log, Choices, Res, stop, failed, done, M, after, pure, onward, ◌>>=◌, in_order}

-- ---- What was logged before

module _ {A : Type 0} where
  -- Nothing was logged before: where a computation begins.
  pub after_nil : (x : Res A) → after [] x ≡ x
  unfolding after
  after_nil (stop s w) = refl
  after_nil (failed r w c) = refl
  after_nil (done a w c) = refl

  -- Two logs, one after the other, are one: a step more of a loop.
  pub after_after : (u w : Log) (x : Res A) → after u (after w x) ≡ after (u ++ w) x
  unfolding after
  after_after u w (stop s v) = rw append_assoc
  after_after u w (failed r v c) = rw append_assoc
  after_after u w (done a v c) = rw append_assoc

-- ---- One computation after another

module _ {A B : Type 0} where
  onward_after : (w : Log) (x : Res A) (k : A → M B) → onward (after w x) k ≡ after w (onward x k)
  unfolding onward after
  onward_after w (stop s v) k = refl
  onward_after w (failed r v c) k = refl
  onward_after w (done a v c) k = sym (after_after w v (k a c))

  -- A value that is at hand goes to what comes next.
  pub pure_bind : (a : A) (k : A → M B) → (pure a >>= k) ≡ k a
  unfolding ◌>>=◌ onward pure
  pure_bind a k = λ i c. after_nil (k a c) i

  -- A part that came to a value and logged nothing: what comes next goes on from the choices that it left.
  pub bind_at : (m : M A) (k : A → M B) (x : Choices) {c : Choices} {a : A} → m x ≡ done a [] c → (m >>= k) x ≡ k a c
  unfolding ◌>>=◌ onward
  bind_at m k x {c} {a} p = ap (λ (z : Res A). onward z k) p ∙ after_nil (k a c)

module _ {A : Type 0} where
  onward_pure : (x : Res A) → onward x pure ≡ x
  unfolding onward pure after
  onward_pure (stop s w) = refl
  onward_pure (failed r w c) = refl
  onward_pure (done a w c) = rw append-nil

  -- To hand a value back is to do nothing more.
  pub bind_pure : (m : M A) → (m >>= pure) ≡ m
  unfolding ◌>>=◌
  bind_pure m = λ i c. onward_pure (m c) i

module _ {A B C : Type 0} where
  onward_onward : (x : Res A) (f : A → M B) (g : B → M C) → onward (onward x f) g ≡ onward x (λ a. f a >>= g)
  unfolding onward ◌>>=◌
  onward_onward (stop s v) f g = refl
  onward_onward (failed r v c) f g = refl
  onward_onward (done a v c) f g = onward_after v (f a c) g

  -- Brackets do not matter: the first part of a part is the first part of the whole.
  pub bind_bind : (m : M A) (f : A → M B) (g : B → M C) → ((m >>= f) >>= g) ≡ (m >>= λ a. f a >>= g)
  unfolding ◌>>=◌
  bind_bind m f g = λ i c. onward_onward (m c) f g i

-- ---- Items in order

module _ {G B C : Type 0} (run : G → M B) where
  -- No item is left: the end of a loop over a list.
  pub in_end : (k : List B → M C) → (in_order run [] >>= k) ≡ k []
  unfolding in_order
  in_end k = pure_bind [] k

  -- The next item, and then the others: a turn of a loop over a list.
  pub in_next : (g : G) (gs : List G) (k : List B → M C) → (in_order run (g ∷ gs) >>= k) ≡ (run g >>= λ v. in_order run gs >>= λ vs. k (v ∷ vs))
  unfolding in_order
  in_next g gs k =
      bind_bind (run g) _ k
      ∙ ap (λ (z : B → M C). run g >>= z)
      (λ i v.
      (bind_bind (in_order run gs) (λ vs. pure (v ∷ vs)) k ∙ ap (λ (z : List B → M C). in_order run gs >>= z) (λ j vs. pure_bind (v ∷ vs) k j)) i)

  -- Some items, and then the others: where several are done at once.
  pub in_append : (xs ys : List G) (k : List B → M C) → (in_order run (xs ++ ys) >>= k)
      ≡ (in_order run xs >>= λ us. in_order run ys >>= λ vs. k (us ++ vs))
  in_append [] ys k = sym (in_end (λ us. in_order run ys >>= λ vs. k (us ++ vs)))
  in_append (x ∷ xs) ys k =
      in_next x (xs ++ ys) k
      ∙ ap (λ (z : B → M C). run x >>= z) (λ i v. in_append xs ys (λ vs. k (v ∷ vs)) i)
      ∙ sym (in_next x xs (λ us. in_order run ys >>= λ vs. k (us ++ vs)))
