-- An item of a list, with its comma: it is skipped, it fails the list, or its value is completed. Assumes nothing.
use mathlib.Core.Path.{◌≡◌, refl, ap, ◌∙◌}
use mathlib.Core.Bool.{Bool}
use mathlib.Core.List.{List, [], ◌∷◌, ◌++◌, filter_map}
use Prim.Native.Nat.{ℕ, suc, ◌≤◌, ◌<◌}
use lib.ListN.{drop}
use Rattle.rows.specs.Answers.{answer_at}
use Rattle.writing.specs.Wrote.{Wrote}
use Rattle.writing.proofs.WroteLaws.{stay}
use Rattle.codes.specs.Errors.{place_of}
use Rattle.codes.specs.Outcome.{too_far}
use Rattle.codes.specs.declared.errors.FieldError.TheVariants as error
use Rattle.graphql.specs.Run.{index, past_list, M, pure, after, note, ◌>>=◌}
use Rattle.graphql.specs.Data.{Val}
use Rattle.graphql.specs.Report.{record_of, records_of, words_of}
use Rattle.graphql.specs.Errors.{place_among, error_of}
use Rattle.graphql.specs.Lookup.{non_null}
use Rattle.graphql.specs.Collect.{Group}
use Rattle.graphql.specs.Coerce.{Arguments}
use Rattle.graphql.specs.Request.{Request}
use Rattle.graphql.specs.Complete.{an_item, resolved, complete_item, complete_resolved, try_nullify, step}
use Rattle.walking.specs.Paths.{segment_of, path_of, error_at}
use Rattle.walking.specs.Gives.{moved_to}
use Rattle.walking.specs.Settled.{FailsWith}
use Rattle.walking.specs.declared.path.Path.{Path}
use Rattle.walking.specs.declared.state.State.{State}
use Rattle.walking.specs.declared.state.Kind.TheVariants.{LeftOut}
use Rattle.walking.specs.declared.state.Failure.TheVariants.{PastList, Stop}
use Rattle.std.specs.Prelude.{Some, None, Ok, Err}
use Rattle.walking.specs.declared.state.Done.{Done}
use Rattle.walking.proofs.Ended.{fails_gives, stopped_gives}
use Rattle.resolving.specs.Sound.{asking, Itemizable}
use Rattle.resolving.specs.Resolve.{Resolved, ResolvesRow}
use Rattle.resolving.specs.Steps.{comma, doing, CompletesItem}
use Rattle.resolving.specs.Field.{spot_at, CompletesBehind, Completable}
use Rattle.resolving.specs.declared.resolve.Asked.{Asked}
use Rattle.resolving.specs.declared.resolve.Given.{Given}
use Rattle.codes.specs.declared.errors.FieldError.{FieldError}
use Rattle.resolving.specs.declared.field.Step.{Step}
use Rattle.resolving.specs.declared.field.Step.TheVariants as step
use Rattle.resolving.proofs.Stepping.{run_full, run_down, steps_same}
use Rattle.resolving.proofs.Answers.{pure_bind_at, given_completing, given_item}

pub item_completable : {types arguments nodes literals variables answers : List ℕ} {asked : Asked}
    → Itemizable types arguments nodes literals variables answers asked → Completable types nodes literals variables
item_completable sound = record {
  listed = sound.listed;
  coercible = sound.coercible;
  parted = sound.parted;
  objects = record { known = sound.objects };
}

-- the task, one segment further down
item_is : (Q : Request) (path : Path) (at last inner row : ℕ) → path.count < 32 → segment_of last ≡ index at → (g : Group) (args : Arguments)
    → doing Q path.count (an_item inner row g args) (path_of path ++ (index at ∷ []))
    ≡ (resolved Q args row (answer_at Q.tables.answers row)
    >>= λ r. complete_item Q (doing Q (suc path.count)) inner r g args (spot_at path last))
unfolding step
item_is Q path at last inner row room seg g args = rw (← seg) (run_down Q room _ _)

module _ {pool names refs types members fields arguments gives nodes literals variables answers : List ℕ} {path : Path} {at : ℕ} {asked : Asked}
    {inner row : ℕ} {text errors : List ℕ} {s : State} where
  pub item_full : {code : ℕ} {d : Done} → path.count ≤ 32 → 32 ≤ path.count → code ≡ too_far → d ≡ record { what = Err (Stop code); state = s }
      → CompletesItem pool names refs types members fields arguments gives nodes literals variables answers path at asked inner row text errors s
      (step.Finished d) text errors
  item_full h l c d = rw (d, c) (record {
    steps = λ sets selections fragments cs g args asks. (rw (run_full _ h l) (stopped_gives too_far), refl);
  })

  module _ (last : ℕ) (room : path.count < 32) (seg : segment_of last ≡ index at) where
    module _ {o : Resolved} (h : ResolvesRow arguments gives literals variables answers asked row o)
        (sound : Itemizable types arguments nodes literals variables answers asked) where
      pub item_skip : {d : Done} → o ≡ Ok None → d ≡ record { what = Ok LeftOut; state = s }
          → CompletesItem pool names refs types members fields arguments gives nodes literals variables answers path at asked inner row text errors s
          (step.Finished d) text errors
      unfolding complete_item note pure after record_of records_of words_of filter_map
      item_skip e d = rw d (record {
        steps = λ sets selections fragments cs g args asks.
            let r = ((rw e at h).resolves pool names refs types members fields sets selections fragments nodes (sound.valued pool)).gave g args asks in (
              rw (item_is _ path at last inner row room seg g args, pure_bind_at _ _ (drop s.choice cs) (r (drop s.choice cs)))
                  (record { what = refl; wrote = stay text s.at; noted = stay errors s.errs; chosen = refl }),
              refl,
            );
      })

      pub item_fails : {e : FieldError} {d : Done} {errors' : List ℕ} → o ≡ Err e
          → FailsWith PastList (error_at e asked.place path last) errors s d errors'
          → CompletesItem pool names refs types members fields arguments gives nodes literals variables answers path at asked inner row text errors s
          (step.Finished d) text errors'
      unfolding complete_item error_of place_among place_of
      item_fails i f = record {
        steps = λ sets selections fragments cs g args asks.
            let r = ((rw i at h).resolves pool names refs types members fields sets selections fragments nodes (sound.valued pool)).gave g args asks in (
              rw (item_is _ path at last inner row room seg g args, pure_bind_at _ _ (drop s.choice cs) (r.1 (drop s.choice cs)))
                  (fails_gives past_list (rw (asks.place, r.0) at f)),
              f.level,
            );
      }

      pub item_given : {v : Given} {b : Bool} {next : ℕ} {behind : State} {r : Step} {text1 text' errors' : List ℕ} → o ≡ Ok (Some v)
          → b ≡ non_null refs inner → Wrote text text1 s.at next comma → behind ≡ moved_to s next
          → CompletesBehind path last asked pool names refs types members fields nodes literals variables inner b s.at v text1 errors behind r text'
          errors'
          → CompletesItem pool names refs types members fields arguments gives nodes literals variables answers path at asked inner row text errors s r
          text' errors'
      item_given {v} {b} {r = r} e n w m f = record {
        steps = λ sets selections fragments cs g args asks.
            let Q = asking pool names refs types members fields arguments sets selections gives fragments nodes literals variables answers in
            let i = ((rw e at h).resolves pool names refs types members fields sets selections fragments nodes (sound.valued pool)).gave g args asks in
            let p = spot_at path last in
            let given = resolved Q args row (answer_at answers row) in
            steps_same Q cs comma path g text errors s _ _ _
            (try_nullify (non_null refs inner) (given >>= λ r. complete_resolved Q (doing Q (suc path.count)) inner r g args p))
            (λ k. ap (λ (z : M Val). z k) (item_is Q path at last inner row room seg g args) ∙ given_item Q path asked g p inner args asks given v i k)
            r
            (((rw (m, n) at f).steps arguments sets selections gives fragments answers g _
            (record { place = asks.place; askable = sound.askable })
            (given_completing Q path asked g p inner args asks given v i)).steps cs comma text w);
      }
