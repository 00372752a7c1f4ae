-- The field of a group: what its plan says of it, and what it comes to. Assumes nothing.
use mathlib.Core.Path.{◌≡◌, ◌∙◌}
use mathlib.Core.List.{List, []}
use Prim.Native.Nat.{ℕ, ◌+◌, ◌*◌, ◌≤◌, ◌<◌}
use native.Mathlib.Omega.{arith}
use lib.ListN.{length}
use Rattle.rows.specs.Names.{name_text}
use Rattle.rows.specs.Document.{field_selection}
use Rattle.rows.specs.declared.layout.Range.{Range}
use Rattle.collecting.specs.Collecting.{FieldRow}
use Rattle.graphql.specs.Run.{M}
use Rattle.graphql.specs.Data.{Val}
use Rattle.graphql.specs.Collect.{Group}
use Rattle.graphql.specs.Request.{Request}
use Rattle.graphql.specs.Complete.{definition_of, field_name, execute_group}
use Rattle.planning.specs.Plans.{word_at, first_of, members_of, rest, group_at, most_words, definition_code, schema}
use Rattle.walking.specs.Paths.{path_of}
use Rattle.walking.specs.declared.path.Path.{Path}
use Rattle.walking.specs.declared.state.State.{State}
use Rattle.walking.specs.declared.state.Done.{Done}
use Rattle.resolving.specs.Sound.{asking}
use Rattle.resolving.specs.Steps.{keyed_by, doing, Steps, ExecutesField}
use Rattle.resolving.specs.declared.field.Step.{Step}
use Rattle.execution.specs.Walk.{FieldReady, StepReady, FieldDone, StepDone}
use Rattle.execution.proofs.Looping.{steps_began}

-- the run of a group
abbrev pub group_run : Request → Path → (object : ℕ) → Range → Group → M Val
group_run Q path object rows g = execute_group Q (doing Q path.count) object rows (path_of path) g (definition_of Q object (field_name Q g))

-- what stands before its value
abbrev pub group_label : Request → Group → List ℕ
group_label Q g = keyed_by (name_text Q.tables.pool Q.tables.names g.key)

module _ {Q : Request} {plans spans hints : List ℕ} {path : Path} {s : State} {plan group object : ℕ} {rows : Range}
    (h : FieldReady Q plans spans hints path s plan group object rows) where
  -- its row is among those that stand
  pub field_there : 8 * (plan + 1 + group) + 7 < length plans
  field_there = omega (arith, h.planned.right.ends, h.planned.right.there, h.has)

  pub field_first : 8 * (plan + 1 + group) < length plans
  field_first = omega (arith, field_there)

  pub field_second : 8 * (plan + 1 + group) + 1 < length plans
  field_second = omega (arith, field_there)

  pub field_small : length plans ≤ most_words
  field_small = h.ready.small

  pub field_row : {first : ℕ} → first ≡ first_of plans (plan + 1 + group) → FieldRow Q.tables.selections first
  field_row e = rw e (h.planned.right.rows group h.has).field

  pub field_own : {own first : ℕ} → own ≡ word_at plans (plan + 1 + group) 1 → first ≡ first_of plans (plan + 1 + group)
      → own ≡ definition_code (definition_of (schema Q.tables.types Q.tables.fields) object (field_selection Q.tables.selections first).name)
  field_own o e = o ∙ rw e (h.planned.right.rows group h.has).definition

module _ (pool names refs types members fields arguments sets selections given fragments nodes literals variables answers : List ℕ) where
  abbrev Q : Request
  Q = asking pool names refs types members fields arguments sets selections given fragments nodes literals variables answers

  module _ {plans spans hints : List ℕ} {path : Path} {s : State} {plan group object : ℕ} {rows : Range}
      (h : FieldReady Q plans spans hints path s plan group object rows) {text errors text1 errors1 : List ℕ} {first : ℕ} {begun : Step}
      (e : first ≡ first_of plans (plan + 1 + group))
      (st : ExecutesField pool names refs types members fields arguments selections given nodes literals variables answers path first object rows text errors s
      begun text1 errors1) where
    abbrev g : Group
    g = group_at selections plans plan group

    its : (cs : List ℕ) → Steps Q cs (group_label Q g) path g text errors s (group_run Q path object rows g) begun text1 errors1
    its cs = rw e at (st.steps sets fragments cs (rest (members_of plans plan group)))

    -- what was begun may go on
    pub field_ready : StepReady Q plans spans hints path s plan group begun
    field_ready = record {
      ready = h.ready;
      grouped = record { object = object; planned = h.planned; has = h.has };
      began = steps_began Q [] (group_label Q g) path g text errors text1 errors1 s (group_run Q path object rows g) begun (its []);
    }

    pub field_done : {cs : List ℕ} {d : Done} {text2 errors2 plans2 spans2 hints2 : List ℕ}
        → StepDone Q cs text1 errors1 plans spans hints path s plan group begun d text2 errors2 plans2 spans2 hints2
        → FieldDone Q cs text errors plans spans hints path s plan group object rows d text2 errors2 plans2 spans2 hints2
    field_done {cs} q = record { left = q.left; enters = q.goes (group_label Q g) text errors (group_run Q path object rows g) (its cs) }
