-- How a value that stands behind its label comes to a step: it ended, it was left out, or it goes deeper. Assumes nothing.
use mathlib.Core.Path.{◌≡◌, refl, ap, ◌∙◌}
use mathlib.Core.Bool.{Bool, true, false}
use mathlib.Core.List.{List, [], ◌∷◌}
use Prim.Native.Nat.{ℕ, suc, ◌-◌, ◌≤◌, ◌<◌}
use native.Mathlib.Omega.{arith}
use lib.ListN.{drop}
use Rattle.tokens.specs.Escape.{quoted}
use Rattle.writing.specs.Wrote.{Wrote, Writes}
use Rattle.writing.proofs.WroteLaws.{stay, back, «then»}
use Rattle.graphql.specs.Run.{here, Choices, M, pure, halt, fail, or_else, caught}
use Rattle.graphql.specs.Run as run
use Rattle.graphql.specs.Data.{Val, absent}
use Rattle.graphql.specs.Collect.{Group}
use Rattle.graphql.specs.Request.{Request}
use Rattle.graphql.specs.Complete.{Task, try_nullify, step}
use Rattle.graphql.specs.Complete as defined
use Rattle.codes.specs.Outcome.{too_far}
use Rattle.codes.specs.declared.errors.FieldError.{FieldError}
use Rattle.walking.specs.Gives.{as_value, as_entry, moved_to, Gives}
use Rattle.walking.specs.Settled.{FailsWith, settled, Nullifies, Settles}
use Rattle.walking.specs.Paths.{error_at}
use Rattle.walking.specs.declared.path.Path.{Path}
use Rattle.walking.specs.declared.state.State.{State}
use Rattle.walking.specs.declared.state.Kind.TheVariants.{LeftOut}
use Rattle.walking.specs.declared.state.Failure.TheVariants.{Here, Stop}
use Rattle.std.specs.Prelude.{Ok, Err}
use Rattle.walking.specs.declared.state.Done.{Done}
use Rattle.walking.proofs.Ended.{words_none, try_settled, fails_gives, stopped_gives}
use Rattle.resolving.specs.Steps.{keyed_by, doing, Steps}
use Rattle.resolving.specs.Field.{Opened, spot_at, noting, StepsBehind, Finishes, OpensBehind}
use Rattle.resolving.specs.declared.resolve.Asked.{Asked}
use Rattle.resolving.specs.declared.field.Container.{Container}
use Rattle.resolving.specs.declared.field.Step.{Step}
use Rattle.resolving.specs.declared.field.Step.TheVariants as step

-- ---- a key

-- the comma, the key and the colon, one after another
pub put_keyed : {t t1 t2 t3 : List ℕ} {at a b r : ℕ} {key x : List ℕ} → Writes t t1 at a (44 ∷ []) → key ≡ x → Writes t1 t2 a b (quoted key)
    → Writes t2 t3 b r (58 ∷ []) → Wrote t t3 at r (keyed_by x)
put_keyed w e k c = «then» w.wrote («then» (rw e at k.wrote) c.wrote)

-- ---- a task, with room for a segment more and without

pub run_full : (Q : Request) {n : ℕ} → n ≤ 32 → 32 ≤ n → (t : Task) (p : run.Path) → doing Q n t p ≡ halt too_far
unfolding defined.run
run_full Q {n} h l t p = let e : 32 - n ≡ 0 = omega arith in rw e

pub run_down : (Q : Request) {n : ℕ} → n < 32 → (t : Task) (p : run.Path) → doing Q n t p ≡ step Q (doing Q (suc n)) t p
unfolding defined.run
run_down Q {n} h t p = let e : 32 - n ≡ suc (32 - suc n) = omega arith in rw e

-- ---- the same computation

pub nullify_same : (b : Bool) (m m' : M Val) (k : Choices) → m k ≡ m' k → try_nullify b m k ≡ try_nullify b m' k
unfolding try_nullify or_else
nullify_same true m m' k e = e
nullify_same false m m' k e = ap (caught _) e

pub nullify_halt : (b : Bool) (code : ℕ) (k : Choices) → try_nullify b (halt code) k ≡ halt code k
unfolding try_nullify or_else caught halt
nullify_halt true code k = refl
nullify_halt false code k = refl

module _ (Q : Request) (cs label : List ℕ) (path : Path) (g : Group) (text errors : List ℕ) (s : State) (text' errors' : List ℕ) where
  -- a computation that is the same at all choices comes to the same step
  pub steps_same : (m m' : M Val) → ((k : Choices) → m k ≡ m' k) → (r : Step) → Steps Q cs label path g text errors s m' r text' errors'
      → Steps Q cs label path g text errors s m r text' errors'
  steps_same m m' e (step.Finished d) w = (rw (e (drop s.choice cs)) w.0, w.1)
  steps_same m m' e (step.Deeper d) w = record {
    roomy = w.roomy;
    written = w.written;
    unnoted = w.unnoted;
    moved = w.moved;
    contains = w.contains;
    askable = w.askable;
    args = w.args;
    asks = w.asks;
    is = λ k. e k ∙ w.is k;
  }

-- ---- behind a label

-- `finished`: null where it failed, and then an entry
pub finishing : {b : Bool} {start : ℕ} {d e r : Done} {text text' : List ℕ} → Nullifies b d text e text' → Settles start e r
    → Finishes b start d text r text'
finishing n s = record {
  level = s.level ∙ n.level;
  finishes = λ cs label before mid errors errors' st x w g.
      s.settles cs before mid _ errors errors' label st st.at _ w (n.nullifies cs mid errors errors' st x g);
}

module _ (Q : Request) (path : Path) (g : Group) (b : Bool) (m : M Val) {start : ℕ} {text errors : List ℕ} {s : State} where
  -- a value that ended
  pub ended_steps : {d r : Done} {text1 text' errors' : List ℕ} → d.state.top ≡ s.top
      → ((cs : List ℕ) → Gives as_value cs text errors s (m (drop s.choice cs)) d text1 errors') → Finishes b start d text1 r text'
      → StepsBehind Q path g start (try_nullify b m) text errors s (step.Finished r) text' errors'
  ended_steps l h f = record {
    steps = λ cs label before w.
        (rw (try_settled b m (drop s.choice cs)) (f.finishes cs label before text errors _ s _ w (h cs)), f.level ∙ l);
  }

  -- a value that failed
  pub failed_steps : {d r : Done} {text' errors' : List ℕ} (e : FieldError) (place last : ℕ)
      → ((k : Choices) → m k ≡ fail here (noting e place (spot_at path last)) k)
      → FailsWith Here (error_at e place path last) errors s d errors' → Finishes b start d text r text'
      → StepsBehind Q path g start (try_nullify b m) text errors s (step.Finished r) text' errors'
  failed_steps e place last i h f = ended_steps h.level (λ cs. rw (i (drop s.choice cs)) (fails_gives here h)) f

  -- the run stopped
  pub stopped_steps : {r : Done} {text' : List ℕ} (code : ℕ) → ((k : Choices) → m k ≡ halt code k)
      → Finishes b start (record { what = Err (Stop code); state = s }) text r text'
      → StepsBehind Q path g start (try_nullify b m) text errors s (step.Finished r) text' errors
  stopped_steps code i f = ended_steps refl (λ cs. rw (i (drop s.choice cs)) (stopped_gives code)) f

  -- a value that is left out: the label is taken back
  pub left_steps : ((k : Choices) → m k ≡ pure absent k)
      → StepsBehind Q path g start (try_nullify b m) text errors s (step.Finished (record { what = Ok LeftOut; state = moved_to s start }))
      text errors
  unfolding pure caught
  left_steps i = record { steps = λ cs label before w. (rw (try_settled b m (drop s.choice cs), i (drop s.choice cs)) (go b w), refl) }
    where
      go : {cs label before : List ℕ} (b : Bool) → Wrote before text start s.at label
          → Gives (as_entry label) cs before errors (moved_to s start) (settled b (pure absent (drop s.choice cs)))
          (record { what = Ok LeftOut; state = moved_to s start }) text errors
      go true w = record { what = refl; wrote = back w; noted = rw words_none (stay errors s.errs); chosen = refl }
      go false w = record { what = refl; wrote = back w; noted = rw words_none (stay errors s.errs); chosen = refl }

-- ---- a list or an object

module _ {path : Path} {last : ℕ} {asked : Asked} {b : Bool} {start : ℕ} {text errors : List ℕ} {s : State} where
  pub opened_fails : {e : FieldError} {o : Opened} {d r : Done} {text' errors' : List ℕ} → o ≡ Err e
      → FailsWith Here (error_at e asked.place path last) errors s d errors' → Finishes b start d text r text'
      → OpensBehind path last asked b start o text errors s (step.Finished r) text' errors'
  opened_fails {e} o h f = rw o (record { steps = λ Q g m at i. failed_steps Q path g b m e _ last i (rw at.place at h) f })

  pub opened_deepens : {c : Container} {o : Opened} → path.count < 32 → o ≡ Ok c
      → OpensBehind path last asked b start o text errors s
      (step.Deeper (record { container = c; non_null = b; last = last; asked = asked; state = s })) text errors
  opened_deepens {c} h o = rw o (record {
    steps = λ Q g m at i. record {
      steps = λ cs label before w. record {
        roomy = h;
        written = w;
        unnoted = refl;
        moved = refl;
        contains = i.contains;
        askable = at.askable;
        args = i.args;
        asks = i.asks;
        is = λ k. nullify_same b m _ k (i.is k);
      };
    };
  })
