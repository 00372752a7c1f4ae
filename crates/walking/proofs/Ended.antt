-- The ends of a part that the functions of `settle` make, for any view, any choices and any text. Assumes nothing.
use mathlib.Core.Path.{◌≡◌, refl, ap}
use mathlib.Core.Bool.{Bool, true, false}
use mathlib.Core.List.{List, [], ◌∷◌, append-nil, filter_map}
use Prim.Native.Nat.{ℕ}
use lib.ListN.{length, drop}
use Rattle.writing.specs.Wrote.{Wrote}
use Rattle.writing.proofs.WroteLaws.{stay, back}
use Rattle.graphql.specs.Run.{Reach, here, past_list, ErrorRecord, err, Choices, Res, stop, failed, done, M}
use Rattle.graphql.specs.Run.{after, pure, halt, fail, or_else, lowered, onward}
use Rattle.graphql.specs.Data.{Data, Val, val}
use Rattle.graphql.specs.Report.{record_of, records_of, record_words, words_of}
use Rattle.graphql.specs.Complete.{try_nullify}
use Rattle.walking.specs.declared.state.State.{State}
use Rattle.walking.specs.declared.state.Failure.TheVariants.{Stop}
use Rattle.std.specs.Prelude.{Ok, Err}
use Rattle.walking.specs.declared.state.Done.{Done}
use Rattle.walking.specs.Gives.{View, as_data, as_value, reach_of, moved_to, Gives, noted as words}
use Rattle.walking.specs.Settled.{FailsWith, settled, passed_list, lower_what}
use Rattle.walking.proofs.Ends.{Fall, f_stop, f_failed}

-- what one error record notes
words_err : (r : ErrorRecord) → words (err r ∷ []) ≡ record_words r
unfolding records_of record_of words_of filter_map
words_err r = append-nil (record_words r)

pub words_none : words [] ≡ []
unfolding records_of words_of filter_map
words_none = refl

-- The definition's `try_nullify` is `settled`, which `try_nullify` ensures.
pub try_settled : (b : Bool) (m : M Val) (c : Choices) → try_nullify b m c ≡ settled b (m c)
unfolding try_nullify or_else
try_settled true m c = refl
try_settled false m c = refl

module _ {A : Type 0} {U : View A} {cs text errors : List ℕ} {s : State} where
  -- `fail` is the definition's, where a text was written on and is taken back.
  pub fails_back : {text' errors' : List ℕ} {d : Done} (reach : Reach) {r : ErrorRecord} {e : ℕ} {out : List ℕ}
      → FailsWith (reach_of reach) r errors s d errors' → Wrote text text' s.at e out
      → Gives U cs text errors s (fail reach (err r) (drop s.choice cs)) d text' errors'
  unfolding fail
  fails_back reach {r} f w = record {
    what = f.what;
    wrote = rw f.stays (back w);
    noted = rw (words_err r) f.noted.wrote;
    chosen = rw f.unchosen;
  }

  -- The same where nothing was written.
  pub fails_gives : {errors' : List ℕ} {d : Done} (reach : Reach) {r : ErrorRecord} → FailsWith (reach_of reach) r errors s d errors'
      → Gives U cs text errors s (fail reach (err r) (drop s.choice cs)) d text errors'
  fails_gives reach f = fails_back reach f (stay text s.at)

  -- `stopped` is the definition's `halt`, whatever was done to the text.
  pub stopped_long : {text' : List ℕ} (code : ℕ) → length text' ≡ length text
      → Gives U cs text errors s (halt code (drop s.choice cs)) (record { what = Err (Stop code); state = s }) text' errors
  unfolding halt
  stopped_long code l = record { what = refl; wrote = l; noted = rw words_none (stay errors s.errs); chosen = refl }

  pub stopped_gives : (code : ℕ)
      → Gives U cs text errors s (halt code (drop s.choice cs)) (record { what = Err (Stop code); state = s }) text errors
  stopped_gives code = stopped_long code refl

  -- A value that is written: the definition's `pure`.
  pub placed_gives : {text' : List ℕ} {at : ℕ} (v : A) → Wrote text text' s.at at (U.show v)
      → Gives U cs text errors s (pure v (drop s.choice cs)) (record { what = Ok (U.says v); state = moved_to s at }) text' errors
  unfolding pure
  placed_gives v w = record { what = refl; wrote = w; noted = rw words_none (stay errors s.errs); chosen = refl }

  -- The text is as long as it was, whatever the run came to.
  pub text_long : {text' errors' : List ℕ} {x : Res A} {d : Done} → Gives U cs text errors s x d text' errors' → length text' ≡ length text
  text_long {x = x} g = go x g
    where
      go : {text' errors' : List ℕ} (x : Res A) {d : Done} → Gives U cs text errors s x d text' errors' → length text' ≡ length text
      go (stop n w) g = g.wrote
      go (failed r w c) g = g.wrote.long
      go (done a w c) g = g.wrote.long

  -- `past_list` is the definition's `passed`, and what `mark` does to a failure.
  pub lowered_gives : {text' errors' : List ℕ} {x : Res A} {d : Done} → Gives U cs text errors s x d text' errors'
      → Gives U cs text errors s (lowered x) (passed_list d) text' errors'
  unfolding lowered
  lowered_gives {x = x} g = go x g
    where
      go : {text' errors' : List ℕ} (x : Res A) {d : Done} → Gives U cs text errors s x d text' errors'
          → Gives U cs text errors s (lowered x) (passed_list d) text' errors'
      go (stop n w) g = record { what = ap lower_what g.what; wrote = g.wrote; noted = g.noted; chosen = refl }
      go (failed here w c) g = record { what = ap lower_what g.what; wrote = g.wrote; noted = g.noted; chosen = g.chosen }
      go (failed past_list w c) g = record { what = ap lower_what g.what; wrote = g.wrote; noted = g.noted; chosen = g.chosen }
      go (done a w c) g = record { what = ap lower_what g.what; wrote = g.wrote; noted = g.noted; chosen = g.chosen }

-- An object's data is a value: what comes after the set of an object answer.
pub val_gives : {cs text errors text' errors' : List ℕ} {s : State} {x : Res Data} {d : Done} → Gives as_data cs text errors s x d text' errors'
    → Gives as_value cs text errors s (onward x (λ a. pure (val a))) d text' errors'
unfolding onward pure after
val_gives {x = x} g = go x g
  where
    go : {cs text errors text' errors' : List ℕ} {s : State} (x : Res Data) {d : Done} → Gives as_data cs text errors s x d text' errors'
        → Gives as_value cs text errors s (onward x (λ a. pure (val a))) d text' errors'
    go (stop n w) g = record { what = g.what; wrote = g.wrote; noted = g.noted; chosen = refl }
    go (failed r w c) g = record { what = g.what; wrote = g.wrote; noted = g.noted; chosen = g.chosen }
    go (done a w c) g = record { what = g.what; wrote = g.wrote; noted = rw (append-nil w) g.noted; chosen = g.chosen }

pub fall_lowered : {A : Type 0} {x : Res A} → Fall x → Fall (lowered x)
unfolding lowered
fall_lowered f_stop = f_stop
fall_lowered f_failed = f_failed
