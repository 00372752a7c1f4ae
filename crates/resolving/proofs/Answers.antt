-- The arguments of a field and its answer, and what is to be completed then; an item likewise. Assumes nothing.
use mathlib.Core.Path.{◌≡◌, refl, sym, ap, ◌∙◌}
use mathlib.Core.Bool.{Bool, true, false}
use mathlib.Core.List.{List, []}
use Rattle.std.specs.Prelude.{Option, Some, None}
use Prim.Native.Nat.{ℕ}
use native.Mathlib.Omega.{arith}
use lib.Dec.{leb}
use Rattle.rows.specs.declared.layout.Range.{Range}
use Rattle.codes.specs.Errors.{place_of}
use Rattle.codes.specs.Outcome.{code_of, too_far, most_open}
use Rattle.graphql.specs.Run.{here, Event, Choices, Res, M, pure, halt, fail, when, onward, ◌>>=◌}
use Rattle.graphql.specs.Run as run
use Rattle.graphql.specs.Data.{Val}
use Rattle.graphql.specs.Json.{containers}
use Rattle.graphql.specs.Errors.{place_among, error_of}
use Rattle.graphql.specs.Lookup.{non_null, field_answer}
use Rattle.graphql.specs.Collect.{Group}
use Rattle.graphql.specs.Coerce.{Arguments}
use Rattle.graphql.specs.Request.{Request}
use Rattle.graphql.specs.Complete.{Leaf, given, a_leaf, field_error, field_place, answered, coerce_arguments, resolve_field_value, try_nullify}
use Rattle.graphql.specs.Complete.{complete_value, complete_resolved, complete_item}
use Rattle.graphql.specs.Complete as defined
use Rattle.input_coercion.specs.Ends.{Checks}
use Rattle.input_coercion.specs.Coerced.{of_arguments}
use Rattle.input_coercion.specs.declared.check.Failure.{Failure}
use Rattle.input_coercion.specs.Ends.{Coercion}
use Rattle.input_coercion.specs.declared.check.Uncoerced.{Uncoerced}
use Rattle.input_coercion.specs.declared.check.Uncoerced.TheVariants as uncoerced
use Rattle.codes.specs.declared.outcome.Outcome.{Outcome}
use Rattle.codes.specs.declared.errors.FieldError.TheVariants as error
use Rattle.std.specs.Prelude.{Ok, Err}
use Rattle.walking.specs.declared.path.Path.{Path}
use Rattle.walking.proofs.RunLaws.{bind_at}
use Rattle.resolving.specs.Sound.{asking}
use Rattle.resolving.specs.Resolve.{Resolved, Asks, leaf_taken, leaf_completed, Gave, GaveValue, ResolvesRow}
use Rattle.resolving.specs.Field.{Answered, noting, beneath, Completing, Answering, answered_of, ResolvesField, AnswersField, Resolvable}
use Rattle.resolving.specs.declared.resolve.Asked.{Asked}
use Rattle.resolving.specs.declared.resolve.Given.{Given}
use Rattle.resolving.specs.declared.resolve.Given.TheVariants as value
use Rattle.resolving.proofs.Stepping.{nullify_same, nullify_halt}

-- ---- what comes first and ends

module _ {A B : Type 0} (m : M A) (k : A → M B) (c : Choices) where
  pub halt_bind : (code : ℕ) → m c ≡ halt code c → (m >>= k) c ≡ halt code c
  unfolding ◌>>=◌ onward halt
  halt_bind code e = ap (λ (z : Res A). onward z k) e

  pub fail_bind : (e : Event) → m c ≡ fail here e c → (m >>= k) c ≡ fail here e c
  unfolding ◌>>=◌ onward fail
  fail_bind e h = ap (λ (z : Res A). onward z k) h

  pub pure_bind_at : {a : A} → m c ≡ pure a c → (m >>= k) c ≡ k a c
  unfolding pure
  pure_bind_at e = bind_at m k c e

onward_same : {A B : Type 0} (m n : M A) (f : A → M B) (k : Choices) → m k ≡ n k → (m >>= f) k ≡ (n >>= f) k
unfolding ◌>>=◌
onward_same {A} m n f k e = ap (λ (z : Res A). onward z f) e

-- ---- ResolveFieldValue

not_found : (o : Option ℕ) → None ≡ o → o ≡ None
not_found None e = refl
not_found (Some row) e = absurd (let z : ◌≡◌ {A = ℕ} 0 1 = cc in omega arith)

found : (o : Option ℕ) {row : ℕ} → Some row ≡ o → o ≡ Some row
found None e = absurd (let z : ◌≡◌ {A = ℕ} 0 1 = cc in omega arith)
found (Some row') e = cc

module _ {arguments gives literals variables answers : List ℕ} {asked : Asked} {rows : Range} {name : ℕ} {o : Option ℕ}
    (n : o ≡ (field_answer answers rows name)) where
  pub field_unanswered : o ≡ None → ResolvesField arguments gives literals variables answers asked rows name (Err error.Resolver)
  unfolding resolve_field_value answered
  field_unanswered e = record {
    gave = λ pool names refs types members fields sets selections fragments nodes v g args a.
        rw (not_found (field_answer answers rows name) (sym e ∙ n)) (refl, λ k. refl);
  }

  pub field_resolved : {row : ℕ} {r : Resolved} → o ≡ Some row → ResolvesRow arguments gives literals variables answers asked row r
      → ResolvesField arguments gives literals variables answers asked rows name r
  unfolding resolve_field_value answered
  field_resolved e h = record {
    gave = λ pool names refs types members fields sets selections fragments nodes v g args a.
        rw (found (field_answer answers rows name) (sym e ∙ n))
        ((h.resolves pool names refs types members fields sets selections fragments nodes v).gave g args a);
  }

-- ---- what is to be completed of what was given

module _ (Q : Request) (path : Path) (asked : Asked) (g : Group) (p : run.Path) (ty : ℕ) (args : Arguments) (asks : Asks Q asked g args) where
  -- a leaf that is taken, and then completed
  taken_completed : (l : Leaf) (k : Choices)
      → (leaf_taken Q l >>= λ r. complete_resolved Q (beneath Q path asked g) ty r g args p) k ≡ leaf_completed Q ty l g p k
  unfolding complete_resolved complete_value when
  taken_completed l k = go (leb (containers l.json) most_open)
    where
      go : (b : Bool)
          → (when b (pure (given (a_leaf l))) (halt too_far) >>= λ r. complete_resolved Q (beneath Q path asked g) ty r g args p) k
          ≡ when b (defined.complete_leaf_value Q ty l g p) (halt too_far) k
      go true = pure_bind_at _ _ k refl
      go false = halt_bind _ _ k too_far refl

  pub given_completing : (m : M defined.Resolved) (v : Given) → GaveValue Q m v
      → Completing Q path asked g p (m >>= λ r. complete_resolved Q (beneath Q path asked g) ty r g args p) ty v
  unfolding complete_resolved complete_value
  given_completing m (value.Leaf leaf) h = record {
    taken = h.taken;
    means = h.means;
    is = λ k. onward_same m _ _ k (h.is k) ∙ taken_completed h.taken k;
  }
  given_completing m (value.List rows) h = record { within = h.0; args = args; asks = asks; is = λ k. pure_bind_at m _ k (h.1 k) }
  given_completing m (value.Object name rows) h = record { within = h.0; args = args; asks = asks; is = λ k. pure_bind_at m _ k (h.1 k) }

  pub resolved_answering : (m : M defined.Resolved) (r : Resolved) → asked.place ≡ field_place Q g → Gave Q m r
      → Answering Q path asked g p (m >>= λ r. complete_resolved Q (beneath Q path asked g) ty r g args p) ty (answered_of asked.place r)
  unfolding complete_resolved field_error error_of place_among place_of
  resolved_answering m (Ok None) at h = λ k. pure_bind_at m _ k (h k)
  resolved_answering m (Ok (Some v)) at h = given_completing m v h
  resolved_answering m (Err e) at h = λ k. pure_bind_at m _ k (h.1 k) ∙ rw (at, h.0)

  -- ---- an item: what may be null is nulled within

  item_pure : (m : M defined.Resolved) (v : defined.Given) (k : Choices) → m k ≡ pure (given v) k
      → (m >>= λ r. complete_item Q (beneath Q path asked g) ty r g args p) k
      ≡ try_nullify (non_null Q.tables.refs ty) (m >>= λ r. complete_resolved Q (beneath Q path asked g) ty r g args p) k
  unfolding complete_item complete_resolved
  item_pure m v k e =
      pure_bind_at m _ k e
      ∙ nullify_same (non_null Q.tables.refs ty) _ (m >>= λ r. complete_resolved Q (beneath Q path asked g) ty r g args p) k
      (sym (pure_bind_at m _ k e))

  item_halt : (m : M defined.Resolved) (k : Choices) (code : ℕ) → m k ≡ halt code k
      → (m >>= λ r. complete_item Q (beneath Q path asked g) ty r g args p) k
      ≡ try_nullify (non_null Q.tables.refs ty) (m >>= λ r. complete_resolved Q (beneath Q path asked g) ty r g args p) k
  item_halt m k code e =
      halt_bind m _ k code e
      ∙ sym (nullify_halt (non_null Q.tables.refs ty) code k)
      ∙ nullify_same (non_null Q.tables.refs ty) (halt code) (m >>= λ r. complete_resolved Q (beneath Q path asked g) ty r g args p) k
      (sym (halt_bind m _ k code e))

  pub given_item : (m : M defined.Resolved) (v : Given) → GaveValue Q m v → (k : Choices)
      → (m >>= λ r. complete_item Q (beneath Q path asked g) ty r g args p) k
      ≡ try_nullify (non_null Q.tables.refs ty) (m >>= λ r. complete_resolved Q (beneath Q path asked g) ty r g args p) k
  unfolding when
  given_item m (value.Leaf leaf) h k = go (leb (containers h.taken.json) most_open) (h.is k)
    where
      go : (b : Bool) → m k ≡ when b (pure (given (a_leaf h.taken))) (halt too_far) k
          → (m >>= λ r. complete_item Q (beneath Q path asked g) ty r g args p) k
          ≡ try_nullify (non_null Q.tables.refs ty) (m >>= λ r. complete_resolved Q (beneath Q path asked g) ty r g args p) k
      go true e = item_pure m _ k e
      go false e = item_halt m k too_far e
  given_item m (value.List rows) h k = item_pure m _ k (h.1 k)
  given_item m (value.Object name rows) h k = item_pure m _ k (h.1 k)

-- ---- the same computation

module _ (Q : Request) (path : Path) (asked : Asked) (g : Group) (p : run.Path) (m n : M Val) (same : (k : Choices) → m k ≡ n k) (ty : ℕ) where
  completing_same : (v : Given) → Completing Q path asked g p n ty v → Completing Q path asked g p m ty v
  completing_same (value.Leaf leaf) h = record { taken = h.taken; means = h.means; is = λ k. same k ∙ h.is k }
  completing_same (value.List rows) h = record { within = h.within; args = h.args; asks = h.asks; is = λ k. same k ∙ h.is k }
  completing_same (value.Object name rows) h = record { within = h.within; args = h.args; asks = h.asks; is = λ k. same k ∙ h.is k }

  answering_same : (a : Answered) → Answering Q path asked g p n ty a → Answering Q path asked g p m ty a
  answering_same (Ok None) h = λ k. same k ∙ h k
  answering_same (Ok (Some v)) h = completing_same v h
  answering_same (Err (uncoerced.Failed f)) h = λ k. same k ∙ h k
  answering_same (Err (uncoerced.Stop o)) h = λ k. same k ∙ h k

-- ---- the arguments of a field, and its answer

module _ {refs types fields arguments gives nodes literals variables answers : List ℕ} {asked : Asked} {rows : Range} {name : ℕ} {r : Coercion}
    (h : Checks (of_arguments refs types fields nodes literals variables arguments gives asked.definitions asked.written) r) where
  pub arguments_fail : {f : Failure} → r ≡ Err (uncoerced.Failed f)
      → AnswersField refs types fields arguments gives nodes literals variables answers asked rows name (Err (uncoerced.Failed f))
  unfolding of_arguments coerce_arguments
  arguments_fail {f} e = record {
    comes = λ pool names members sets selections fragments path g p ty at k.
        fail_bind _ _ k (noting f.error f.place p) ((rw e at (h.ends pool names p)) k);
  }

  pub arguments_stop : {o : Outcome} → r ≡ Err (uncoerced.Stop o)
      → AnswersField refs types fields arguments gives nodes literals variables answers asked rows name (Err (uncoerced.Stop o))
  unfolding of_arguments coerce_arguments
  arguments_stop {o} e = record {
    comes = λ pool names members sets selections fragments path g p ty at k. halt_bind _ _ k (code_of o) ((rw e at (h.ends pool names p)) k);
  }

  -- what has no value goes on as it is
  pub arguments_lost : {u : Uncoerced} → r ≡ Err u
      → AnswersField refs types fields arguments gives nodes literals variables answers asked rows name (Err u)
  arguments_lost {u = uncoerced.Failed f} e = arguments_fail e
  arguments_lost {u = uncoerced.Stop o} e = arguments_stop e

  pub arguments_coerced : {v : Resolved} {a : Answered} → Resolvable arguments nodes answers asked → {t : _} → r ≡ Ok t
      → ResolvesField arguments gives literals variables answers asked rows name v → a ≡ answered_of asked.place v
      → AnswersField refs types fields arguments gives nodes literals variables answers asked rows name a
  unfolding of_arguments coerce_arguments pure
  arguments_coerced {v} {a} s e w i = rw i (record {
    comes = λ pool names members sets selections fragments path g p ty at.
        let Q = asking pool names refs types members fields arguments sets selections gives fragments nodes literals variables answers in
        let c = rw e at (h.ends pool names p) in
        let asks : Asks Q asked g c.value = record { place = at; path = p; comes = record { log = []; from = []; to = []; is = c.is [] } } in
        answering_same Q path asked g p _ _ (λ k. pure_bind_at _ _ k (c.is k)) ty (answered_of asked.place v)
        (resolved_answering Q path asked g p ty c.value asks (resolve_field_value Q rows name c.value) v at
        (w.gave pool names refs types members fields sets selections fragments nodes (s.valued pool) g c.value asks));
  })
