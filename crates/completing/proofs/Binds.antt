-- What comes after a value, and after an error. Assumes nothing.
use mathlib.Core.Path.{◌≡◌, refl, fun_ext}
use mathlib.Core.List.{[]}
use Rattle.codes.specs.declared.errors.FieldError.{FieldError}
use Rattle.graphql.specs.Run.{Path, M, Res, stop, failed, done, pure, fail, after, onward, ◌>>=◌}
use Rattle.graphql.specs.Collect.{Group}
use Rattle.graphql.specs.Request.{Request}
use Rattle.graphql.specs.Complete.{field_error}

after_nothing : {A : Type 0} (x : Res A) → after [] x ≡ x
unfolding after
after_nothing (stop s w) = refl
after_nothing (failed r w c) = refl
after_nothing (done a w c) = refl

module _ {A B : Type 0} (k : A → M B) where
  pub pure_bind : (a : A) → (pure a >>= k) ≡ k a
  unfolding ◌>>=◌ onward pure
  pure_bind a = fun_ext (λ c. after_nothing (k a c))

  pub error_bind : (Q : Request) (e : FieldError) (g : Group) (p : Path) → (field_error Q e g p >>= k) ≡ field_error Q e g p
  unfolding ◌>>=◌ onward field_error fail
  error_bind Q e g p = refl
