-- How a call ends: as it began, as another does, or stopped on its way; and what follows one that went on. Assumes nothing.
use mathlib.Core.Path.{◌≡◌, refl, ◌∙◌}
use mathlib.Core.List.{List, []}
use Prim.Native.Nat.{ℕ}
use Rattle.std.specs.Prelude.{Ok, Err}
use Rattle.codes.specs.declared.outcome.Outcome.{Outcome}
use Rattle.graphql.specs.Run.{Choices, Res, M, stop, failed, done, after, pure, onward, ◌>>=◌}
use Rattle.graphql.specs.Collect.{Collected}
use Rattle.collecting.specs.Collecting.{Collecting, Shows, Comes, Collects}
use Rattle.collecting.specs.declared.collect.Gathered.{Gathered}

module _ (selections fragments : List ℕ) {list : List ℕ} {g : Gathered} (m : Collected → M Collected) where
  -- what was collected stays, but for fragments visited
  pub stays : {g' : Gathered} (f : Collected → Collected)
      → ((c : Collected) → Shows selections fragments list g c → (m c ≡ pure (f c)) × Shows selections fragments list g' (f c))
      → Collects selections fragments m list g (Ok g') list
  unfolding pure
  stays f h = record { kept = refl; collects = λ c s. record { collected = f c; is = λ k. rw (h c s).0; shows = (h c s).1 } }

  pub like : {g' : Gathered} {r : Collecting} {list' : List ℕ} (f : Collected → Collected) (n : Collected → M Collected)
      → ((c : Collected) → Shows selections fragments list g c → (m c ≡ n (f c)) × Shows selections fragments list g' (f c))
      → Collects selections fragments n list g' r list' → Collects selections fragments m list g r list'
  like f n h q = record { kept = q.kept; collects = λ c s. rw (h c s).0 (q.collects (f c) (h c s).1) }

-- a run that comes to the same
pub comes_as : (selections fragments : List ℕ) {m n : M Collected} (r : Collecting) (list : List ℕ) → ((k : Choices) → m k ≡ n k)
    → Comes selections fragments n r list → Comes selections fragments m r list
comes_as selections fragments (Ok g) list h q = record { collected = q.collected; is = λ k. h k ∙ q.is k; shows = q.shows }
comes_as selections fragments (Err o) list h q = λ k. h k ∙ q k

-- what follows a call that stops is not run
pub stopped : (selections fragments : List ℕ) (m : M Collected) (f : Collected → M Collected) (o : Outcome) (list : List ℕ)
    → Comes selections fragments m (Err o) list → Comes selections fragments (m >>= f) (Err o) list
unfolding ◌>>=◌ onward
stopped selections fragments m f o list h = λ k. rw (h k)

after_none : {A : Type 0} (x : Res A) → after [] x ≡ x
unfolding after
after_none (stop s w) = refl
after_none (failed r w c) = refl
after_none (done a w c) = refl

pub went : {B : Type 0} (m : M Collected) (f : Collected → M B) (d : Collected) (k : Choices) → m k ≡ done d [] k → (m >>= f) k ≡ f d k
unfolding ◌>>=◌ onward
went m f d k e = rw e (after_none (f d k))
