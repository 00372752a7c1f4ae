-- What a run is that was answered so. Assumes nothing.
use mathlib.Core.Path.{◌≡◌, refl}
use Prim.Native.Nat.{ℕ}
use native.Mathlib.Omega.{arith}
use Rattle.graphql.specs.Run.{Reach, here, past_list, Log, Choices, Res, stop, failed, done}
use Rattle.walking.specs.declared.state.Kind.{Kind}
use Rattle.walking.specs.declared.state.Failure.{Failure}
use Rattle.walking.specs.declared.state.Failure.TheVariants.{Here}
use Rattle.std.specs.Prelude.{Ok, Err}
use Rattle.walking.specs.Gives.{Completed, View, answer_of}

-- a run that has no value
pub data Fall {A : Type 0} : Res A → Type 0 where
  f_stop : {s : ℕ} {w : Log} → Fall (stop s w)
  f_failed : {r : Reach} {w : Log} {c : Choices} → Fall (failed r w c)

module _ {A : Type 0} (U : View A) where
  -- Ok: it is done, with a value. For what comes after a call that came to something.
  pub placed_of : (x : Res A) {a : Completed} {k : Kind} → a ≡ Ok k → a ≡ answer_of U x → (v : A) × (w : Log) × (c : Choices) × (x ≡ done v w c)
  placed_of (stop s w) e h = absurd (let z : ◌≡◌ {A = ℕ} 0 1 = cc in omega arith)
  placed_of (failed r w c) e h = absurd (let z : ◌≡◌ {A = ℕ} 0 1 = cc in omega arith)
  placed_of (done v w c) e h = (v, w, c, refl)

  -- Err: it has no value. For what comes after a call that did not.
  pub fall_of : (x : Res A) {a : Completed} {f : Failure} → a ≡ Err f → a ≡ answer_of U x → Fall x
  fall_of (stop s w) e h = f_stop
  fall_of (failed r w c) e h = f_failed
  fall_of (done v w c) e h = absurd (let z : ◌≡◌ {A = ℕ} 0 1 = cc in omega arith)

  -- It failed, as far as to the place around it.
  pub here_of : (x : Res A) {a : Completed} → a ≡ Err Here → a ≡ answer_of U x → (w : Log) × (c : Choices) × (x ≡ failed here w c)
  here_of (stop s w) e h = absurd (let z : ◌≡◌ {A = ℕ} 0 1 = cc in omega arith)
  here_of (failed here w c) e h = (w, c, refl)
  here_of (failed past_list w c) e h = absurd (let z : ◌≡◌ {A = ℕ} 0 1 = cc in omega arith)
  here_of (done v w c) e h = absurd (let z : ◌≡◌ {A = ℕ} 0 1 = cc in omega arith)
