-- A field of a set, with its key: it is not defined, it is too far down, or its value is completed. Assumes nothing.
use mathlib.Core.Path.{◌≡◌, refl, sym, ap, ◌∙◌}
use mathlib.Core.Bool.{Bool}
use mathlib.Core.List.{List}
use Rattle.std.specs.Prelude.{Option, Some, None}
use Prim.Native.Nat.{ℕ, suc, ◌-◌, ◌≤◌, ◌<◌}
use native.Mathlib.Omega.{arith}
use Rattle.rows.specs.Names.{name_text}
use Rattle.rows.specs.Schema.{field_at}
use Rattle.rows.specs.Document.{selection_at, field_selection}
use Rattle.rows.specs.declared.layout.Range.{Range}
use Rattle.rows.specs.declared.document.FieldSelection.{FieldSelection}
use Rattle.rows.specs.declared.schema.Field.{Field}
use Rattle.writing.specs.Wrote.{Wrote}
use Rattle.writing.proofs.WroteLaws.{stay}
use Rattle.codes.specs.Outcome.{too_far}
use Rattle.graphql.specs.Run.{name, M}
use Rattle.graphql.specs.Data.{Val, absent}
use Rattle.graphql.specs.Lookup.{non_null}
use Rattle.graphql.specs.Collect.{Group}
use Rattle.graphql.specs.Request.{Request}
use Rattle.graphql.specs.Complete.{Definition, typename, defined, field_name, field_place, attached_type, definition_of, complete_value, complete_leaf_value}
use Rattle.graphql.specs.Complete.{try_nullify, execute_field, execute_group, step}
use Rattle.collecting.specs.Collecting.{FieldRow}
use Rattle.planning.specs.Plans.{definition_code, schema}
use Rattle.planning.proofs.Definitions.{undefined_is, typename_is, defined_is}
use Rattle.walking.specs.Paths.{segment_of, path_of}
use Rattle.walking.specs.Gives.{moved_to}
use Rattle.walking.specs.declared.path.Path.{Path}
use Rattle.walking.specs.declared.state.State.{State}
use Rattle.walking.specs.declared.state.Kind.TheVariants.{LeftOut}
use Rattle.walking.specs.declared.state.Failure.TheVariants.{Stop}
use Rattle.std.specs.Prelude.{Ok, Err}
use Rattle.walking.specs.declared.state.Done.{Done}
use Rattle.walking.proofs.Ended.{stopped_gives, placed_gives}
use Rattle.resolving.specs.Sound.{asking, Askable, Answerable}
use Rattle.resolving.specs.Steps.{keyed_by, doing, group_from, ExecutesField}
use Rattle.resolving.specs.Field.{Answered, spot_at, typename_in, field_value, TypenameBehind, AnswersField, AnswersBehind, Completable, Resolvable}
use Rattle.resolving.specs.declared.resolve.Asked.{Asked}
use Rattle.resolving.specs.declared.field.Step.{Step}
use Rattle.resolving.specs.declared.field.Step.TheVariants as step
use Rattle.resolving.proofs.Stepping.{run_full, run_down, steps_same}

-- ---- what the parts rest on

module _ {types fields arguments selections nodes literals variables answers : List ℕ}
    (sound : Answerable types fields arguments selections nodes literals variables answers) where
  pub field_completable : Completable types nodes literals variables
  field_completable = record {
    listed = sound.listed;
    coercible = sound.coercible;
    parted = sound.parted;
    objects = record { known = sound.objects };
  }

  -- the arguments of the field's own definition, and those that are written
  pub field_resolvable : {first place : ℕ} {f : FieldSelection} {def : Field} (row : ℕ) → FieldRow selections first
      → f ≡ field_selection selections first → def ≡ field_at fields row
      → Resolvable arguments nodes answers (record { definitions = def.arguments; written = f.given; place = place })
  field_resolvable row there f d = rw (f, d) (record {
    valued = sound.valued;
    leads = sound.leads;
    askable = record { defined = sound.defined row; written = sound.written _ there; differ = sound.differ row };
  })

-- ---- which definition a word says

says_some : (o : Option Definition) → (0 ≡ definition_code o → ⊥) → (d : Definition) × (o ≡ Some d)
unfolding definition_code
says_some None e = absurd (e refl)
says_some (Some d) e = (d, refl)

-- ---- the group, by its definition

module _ (Q : Request) (path : Path) (object : ℕ) (rows : Range) (g : Group) where
  group_is : {o : Option Definition}
      → definition_of (schema Q.tables.types Q.tables.fields) object (field_selection Q.tables.selections g.first).name ≡ o
      → execute_group Q (doing Q path.count) object rows (path_of path) g (definition_of Q object (field_name Q g))
      ≡ execute_group Q (doing Q path.count) object rows (path_of path) g o
  unfolding definition_of field_name
  group_is e = ap (execute_group Q (doing Q path.count) object rows (path_of path) g) e

  -- the task, one segment further down
  group_step : (last : ℕ) → path.count < 32 → segment_of last ≡ name g.key → (d : Definition)
      → execute_group Q (doing Q path.count) object rows (path_of path) g (Some d)
      ≡ execute_field Q (doing Q (suc path.count)) object rows g d (spot_at path last)
  unfolding execute_group step
  group_step last room seg d = rw seg (run_down Q room _ _)

module _ {pool names refs types members fields arguments selections gives nodes literals variables answers : List ℕ} {path : Path} {first object : ℕ}
    {rows : Range} {text errors : List ℕ} {s : State} {own : ℕ}
    (says : own ≡ definition_code (definition_of (schema types fields) object (field_selection selections first).name)) where
  pub field_undefined : {d : Done} → own ≡ 0 → d ≡ record { what = Ok LeftOut; state = s }
      → ExecutesField pool names refs types members fields arguments selections gives nodes literals variables answers path first object rows text
      errors s (step.Finished d) text errors
  unfolding execute_group
  field_undefined u d = rw d (record {
    steps = λ sets fragments cs more.
        let Q = asking pool names refs types members fields arguments sets selections gives fragments nodes literals variables answers in
        (rw (group_is Q path object rows (group_from selections first more) (undefined_is _ says u)) (placed_gives absent (stay text s.at)), refl);
  })

  pub field_full : {code : ℕ} {d : Done} → (own ≡ 0 → ⊥) → path.count ≤ 32 → 32 ≤ path.count → code ≡ too_far
      → d ≡ record { what = Err (Stop code); state = s }
      → ExecutesField pool names refs types members fields arguments selections gives nodes literals variables answers path first object rows text
      errors s (step.Finished d) text errors
  unfolding execute_group
  field_full n h l c d = rw (d, c) (record {
    steps = λ sets fragments cs more.
        let Q = asking pool names refs types members fields arguments sets selections gives fragments nodes literals variables answers in
        let o = says_some (definition_of (schema types fields) object (field_selection selections first).name) (λ z. n (says ∙ sym z)) in
        (rw (group_is Q path object rows (group_from selections first more) o.1, run_full Q h l) (stopped_gives too_far), refl);
  })

  -- ---- behind its key

  module _ {f : FieldSelection} {place last next : ℕ} {behind : State} {text1 text' errors' : List ℕ} (room : path.count < 32)
      (is : f ≡ field_selection selections first) (stands : place ≡ (selection_at selections first).place) (seg : segment_of last ≡ name f.key)
      (w : Wrote text text1 s.at next (keyed_by (name_text pool names f.key))) (m : behind ≡ moved_to s next) where
    pub field_typename : {r : Done} → (own ≡ 1)
        → TypenameBehind path last pool names refs types members fields nodes literals variables place f.ty object s.at text1 errors behind r text'
        errors'
        → ExecutesField pool names refs types members fields arguments selections gives nodes literals variables answers path first object rows text
        errors s (step.Finished r) text' errors'
    unfolding execute_field complete_value attached_type field_place
    field_typename {r} t h = record {
      steps = λ sets fragments cs more.
          let Q = asking pool names refs types members fields arguments sets selections gives fragments nodes literals variables answers in
          let g = group_from selections first more in
          steps_same Q cs (keyed_by (name_text pool names g.key)) path g text errors s _ _ _
          (complete_leaf_value Q (field_selection selections first).ty (typename_in pool names types object) g (spot_at path last))
          (λ k. ap (λ (z : M Val). z k) (group_is Q path object rows g (typename_is _ says t) ∙ group_step Q path object rows g last room (rw is at seg) typename))
          (step.Finished r)
          (((rw (m, is) at h).steps arguments sets selections gives fragments answers g stands).steps cs _ text (rw is at w));
    }

    pub field_defined : {def : Field} {b : Bool} {a : Answered} {r : Step} → (own ≡ 0 → ⊥) → (own ≡ 1 → ⊥) → def ≡ field_at fields (own - 2)
        → b ≡ non_null refs def.ty
        → let asked : Asked = record { definitions = def.arguments; written = f.given; place = place } in
        Askable arguments asked
        → AnswersField refs types fields arguments gives nodes literals variables answers asked rows f.name a
        → AnswersBehind path last asked pool names refs types members fields nodes literals variables f.ty b s.at a text1 errors behind r text'
        errors'
        → ExecutesField pool names refs types members fields arguments selections gives nodes literals variables answers path first object rows text
        errors s r text' errors'
    unfolding execute_field attached_type field_place field_name
    field_defined {def} {b} {a} {r} n t d e askable v h = record {
      steps = λ sets fragments cs more.
          let Q = asking pool names refs types members fields arguments sets selections gives fragments nodes literals variables answers in
          let g = group_from selections first more in
          let asked : Asked = record { definitions = def.arguments; written = f.given; place = place } in
          let p = spot_at path last in
          let same : execute_field Q (doing Q (suc path.count)) object rows g (defined (own - 2)) p
          ≡ try_nullify b (field_value Q path asked rows f.name f.ty g p) = rw (e, d, is) in
          steps_same Q cs (keyed_by (name_text pool names g.key)) path g text errors s _ _ _
          (try_nullify b (field_value Q path asked rows f.name f.ty g p))
          (λ k. ap (λ (z : M Val). z k)
          (group_is Q path object rows g (defined_is _ says (omega (arith, n, t))) ∙ group_step Q path object rows g last room (rw is at seg) (defined (own - 2)) ∙ same))
          r
          (((rw m at h).steps arguments sets selections gives fragments answers g _ (record { place = stands; askable = askable })
          (v.comes pool names members sets selections fragments path g p f.ty stands)).steps cs _ text (rw is at w));
    }
