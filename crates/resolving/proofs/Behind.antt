-- What was given or answered, completed behind its label: arm by arm. Assumes nothing.
use mathlib.Core.Path.{◌≡◌, refl, ◌∙◌}
use mathlib.Core.Bool.{Bool}
use mathlib.Core.List.{List}
use Prim.Native.Nat.{ℕ}
use lib.ListN.{drop}
use Rattle.rows.specs.Schema.{type_at}
use Rattle.rows.specs.declared.layout.Range.{Range}
use Rattle.rows.specs.declared.schema.TypeDef.{TypeDef}
use Rattle.codes.specs.declared.errors.FieldError.{FieldError}
use Rattle.graphql.specs.Run.{when}
use Rattle.graphql.specs.Json.{containers}
use Rattle.leaves.specs.declared.leaf.Leaf as code
use Rattle.leaves.specs.declared.leaf.Leaf.TheVariants as leaf
use Rattle.walking.specs.Gives.{moved_to}
use Rattle.walking.specs.Settled.{FailsWith, Settles}
use Rattle.walking.specs.Paths.{error_at}
use Rattle.walking.specs.declared.path.Path.{Path}
use Rattle.walking.specs.declared.state.State.{State}
use Rattle.walking.specs.declared.state.Kind.TheVariants.{LeftOut}
use Rattle.walking.specs.declared.state.Failure.TheVariants.{Here, Stop}
use Rattle.std.specs.Prelude.{Some, None, Ok, Err}
use Rattle.codes.specs.Outcome.{code_of}
use Rattle.codes.specs.declared.outcome.Outcome.{Outcome}
use Rattle.input_coercion.specs.declared.check.Failure.{Failure}
use Rattle.input_coercion.specs.declared.check.Uncoerced.TheVariants as uncoerced
use Rattle.walking.specs.declared.state.Done.{Done}
use Rattle.resolving.specs.Resolve.{CompletesAt}
use Rattle.resolving.specs.Field.{Opened, Answered, Finishes, OpensList, OpensObject, OpensBehind, CompletesBehind, AnswersBehind, TypenameBehind, typename_in}
use Rattle.resolving.specs.declared.resolve.Asked.{Asked}
use Rattle.resolving.specs.declared.resolve.Given.{Given}
use Rattle.resolving.specs.declared.resolve.Given.TheVariants as value
use Rattle.resolving.specs.declared.field.Step.{Step}
use Rattle.resolving.specs.declared.field.Step.TheVariants as step
use Rattle.resolving.proofs.Stepping.{ended_steps, failed_steps, stopped_steps, left_steps}

module _ {path : Path} {last : ℕ} {asked : Asked} {pool names refs types members fields nodes literals variables : List ℕ} {ty : ℕ} {b : Bool}
    {start : ℕ} {text errors : List ℕ} {s : State} where
  -- ---- what was given

  module _ {v : Given} where
    pub completes_leaf : {l : code.Leaf} {d r : Done} {text1 text' errors' : List ℕ} → v ≡ value.Leaf l
        → CompletesAt pool names refs types members fields nodes literals variables ty l asked.place path last text errors s d text1 errors'
        → Finishes b start d text1 r text'
        → CompletesBehind path last asked pool names refs types members fields nodes literals variables ty b start v text errors s (step.Finished r)
        text' errors'
    completes_leaf e h f = rw e (record {
      steps = λ arguments sets selections given fragments answers g m at i.
          ended_steps _ path g b m h.level
          (λ cs. rw (i.is (drop s.choice cs))
          ((h.completes arguments sets selections given fragments answers).comes cs g i.taken at.place i.means))
          f;
    })

    module _ {o : Opened} {r : Step} {text' errors' : List ℕ} (w : OpensBehind path last asked b start o text errors s r text' errors') where
      pub completes_list : {rows : Range} → v ≡ value.List rows → OpensList refs ty rows o
          → CompletesBehind path last asked pool names refs types members fields nodes literals variables ty b start v text errors s r text' errors'
      completes_list e h = rw e (record {
        steps = λ arguments sets selections given fragments answers g m at i. w.steps _ g m at (h.opens _ path asked g _ m refl i);
      })

      pub completes_object : {name : ℕ} {rows : Range} → v ≡ value.Object name rows → OpensObject refs types members ty name rows o
          → CompletesBehind path last asked pool names refs types members fields nodes literals variables ty b start v text errors s r text' errors'
      completes_object e h = rw e (record {
        steps = λ arguments sets selections given fragments answers g m at i.
            w.steps _ g m at
            (h.opens _ path asked g _ m pool names (record { of_pool = refl; of_names = refl; of_refs = refl; of_types = refl; of_members = refl }) i);
      })

  -- ---- what was answered

  module _ {a : Answered} where
    pub answers_given : {v : Given} {r : Step} {text' errors' : List ℕ} → a ≡ Ok (Some v)
        → CompletesBehind path last asked pool names refs types members fields nodes literals variables ty b start v text errors s r text' errors'
        → AnswersBehind path last asked pool names refs types members fields nodes literals variables ty b start a text errors s r text' errors'
    answers_given e h = rw e (record { steps = h.steps })

    pub answers_skip : {back : State} {r : Done} → a ≡ Ok None → back ≡ moved_to s start → r ≡ record { what = Ok LeftOut; state = back }
        → AnswersBehind path last asked pool names refs types members fields nodes literals variables ty b start a text errors s (step.Finished r)
        text errors
    answers_skip e m d = rw (e, d, m) (record {
      steps = λ arguments sets selections given fragments answers g m at i. left_steps _ path g b m i;
    })

    pub answers_failed : {f : Failure} {d r : Done} {text' errors' : List ℕ} → a ≡ Err (uncoerced.Failed f)
        → FailsWith Here (error_at f.error f.place path last) errors s d errors' → Finishes b start d text r text'
        → AnswersBehind path last asked pool names refs types members fields nodes literals variables ty b start a text errors s (step.Finished r)
        text' errors'
    answers_failed {f} i h w = rw i (record {
      steps = λ arguments sets selections given fragments answers g m at i. failed_steps _ path g b m f.error f.place last i h w;
    })

    pub answers_stopped : {o : Outcome} {code : ℕ} {d r : Done} {text' : List ℕ} → a ≡ Err (uncoerced.Stop o) → code ≡ code_of o
        → d ≡ record { what = Err (Stop code); state = s } → Finishes b start d text r text'
        → AnswersBehind path last asked pool names refs types members fields nodes literals variables ty b start a text errors s (step.Finished r)
        text' errors
    answers_stopped {o} i c e f = rw i (record {
      steps = λ arguments sets selections given fragments answers g m at i. stopped_steps _ path g b m (code_of o) i (rw (e, c) at f);
    })

-- ---- `__typename`

pub typename_settles : {path : Path} {last : ℕ} {pool names refs types members fields nodes literals variables : List ℕ} {place ty object start : ℕ}
    {text errors : List ℕ} {s : State} {d r : Done} {text' errors' : List ℕ} {def : TypeDef} → def ≡ type_at types object
    → CompletesAt pool names refs types members fields nodes literals variables ty (leaf.Name def.name) place path last text errors s d text' errors'
    → Settles start d r
    → TypenameBehind path last pool names refs types members fields nodes literals variables place ty object start text errors s r text' errors'
unfolding when containers
typename_settles {pool = pool} {names = names} {types = types} {object = object} {s = s} e h w = record {
  steps = λ arguments sets selections given fragments answers g at. record {
    steps = λ cs label before l. (
      w.settles cs before _ _ _ _ label s s.at _ l
          ((h.completes arguments sets selections given fragments answers).comes cs g (typename_in pool names types object) at (rw e)),
      w.level ∙ h.level,
    );
  };
}
