-- The walk of lawful tables: the operation's plan, and then its groups. Assumes nothing.
use mathlib.Core.Path.{◌≡◌, refl}
use mathlib.Core.Logic.{⊎_elim}
use mathlib.Core.Bool.{true}
use mathlib.Core.List.{List, [], ◌∷◌}
use Prim.Native.Nat.{ℕ, ◌+◌, ◌≤◌}
use native.Mathlib.Omega.{arith}
use borrow.Enum.Refused.{Among, opened}
use denote.Enum.Declared.{tag_of}
use lib.ListN.{replicate, length-replicate}
use Rattle.rows.specs.Layout.{type_width}
use Rattle.rows.specs.Limits.{most_answers}
use Rattle.rows.specs.Rows.{rows_of}
use Rattle.rows.specs.Schema.{type_at}
use Rattle.rows.specs.Answers.{answer_at}
use Rattle.rows.specs.declared.layout.Range.{Range}
use Rattle.rows.specs.declared.answers.Answer.{Answer}
use Rattle.rows.specs.declared.answers.Answer.TheVariants as answer
use Rattle.rows.proofs.Every.{and_right}
use Rattle.rows.specs.contracts.answers.Answer.{the_type as answers}
use Rattle.rules.specs.Rows.{is_row}
use Rattle.rules.specs.Schema.{object_kind}
use Rattle.tables.specs.Tables.{Tables}
use Rattle.tables.specs.Lawful.{lawful}
use Rattle.tables.proofs.Facts.{root_is_object}
use Rattle.graphql.specs.Run.{Choices, stop, halt, onward, ◌>>=◌}
use Rattle.graphql.specs.Request.{Request}
use Rattle.graphql.specs.Complete.{rows_of_object, execute_selection_set, execute}
use Rattle.planning.specs.Plans.{Storable, Made, Stopped, PlansAlone, operation_of}
use Rattle.planning.specs.Plans as plans
use Rattle.std.specs.Prelude.{Result, Ok}
use Rattle.codes.specs.Outcome.{code_of}
use Rattle.codes.specs.declared.outcome.Outcome.{Outcome}
use Rattle.planning.specs.declared.plan.Plan.{Plan}
use Rattle.walking.specs.declared.path.Path.{Path}
use Rattle.walking.specs.declared.state.Failure.TheVariants.{Stop}
use Rattle.std.specs.Prelude.{Err}
use Rattle.walking.specs.declared.state.Done.{Done}
use Rattle.walking.specs.Paths.{path_of}
use Rattle.walking.specs.Gives.{as_data, Gives}
use Rattle.walking.proofs.Ended.{stopped_gives}
use Rattle.resolving.specs.Sound.{asking, Leads}
use Rattle.execution.specs.Walk.{SetReady, SetDone}
use Rattle.running.specs.Running.{at_start}
use Rattle.running.proofs.Root.{execute_root}
use Rattle.running.proofs.Sound.{sound_of}

-- ---- The rows that answer the root's fields

pub rows_object : {a b : Answer} {name : ℕ} {rows : Range} → a ≡ b → a ≡ answer.Object name rows → rows ≡ rows_of_object b
unfolding rows_of_object
rows_object e f = rw (← e, f)

no_rows : (a : Answer) → Among (0 ∷ 1 ∷ 2 ∷ 3 ∷ 5 ∷ 6 ∷ []) (tag_of answers a) → record { first = 0; count = 0 } ≡ rows_of_object a
unfolding rows_of_object
no_rows answer.Skip o = refl
no_rows answer.Error o = refl
no_rows (answer.Leaf node) o = refl
no_rows (answer.List rows) o = refl
no_rows (answer.Object n rows) o =
    absurd (⊎_elim (λ h. omega arith) (λ u. ⊎_elim (λ h. omega arith) (λ v. ⊎_elim (λ h. omega arith) (λ w. ⊎_elim (λ h. omega arith)
    (λ x. ⊎_elim (λ h. omega arith) (λ h. omega arith) x) w) v) u) (opened o))
no_rows (answer.Echo n) o = refl
no_rows answer.Unknown o = refl

pub rows_other : {a b : Answer} → a ≡ b → Among (0 ∷ 1 ∷ 2 ∷ 3 ∷ 5 ∷ 6 ∷ []) (tag_of answers a) → record { first = 0; count = 0 } ≡ rows_of_object b
rows_other {a} e o = rw (← e) (no_rows a o)

rows_led : (a : Answer) → Leads a → (rows_of_object a).first + (rows_of_object a).count ≤ most_answers
unfolding rows_of_object
rows_led answer.Skip l = omega arith
rows_led answer.Error l = omega arith
rows_led (answer.Leaf node) l = omega arith
rows_led (answer.List rows) l = omega arith
rows_led (answer.Object n rows) l = l
rows_led (answer.Echo n) l = omega arith
rows_led answer.Unknown l = omega arith

-- ---- Lawful tables

module _ (T : Tables) where
  abbrev P : Request
  P = asking T.pool T.names T.refs T.types T.members T.fields T.arguments T.sets T.selections T.given T.fragments
      T.nodes T.literals T.variables T.answers

  abbrev PlansOperation : (store : List ℕ) → Result Plan Outcome → (store' : List ℕ) → Type 0
  PlansOperation store r store' =
      PlansAlone T.refs T.types T.members T.fields T.sets T.selections T.fragments T.nodes T.variables operation_of T.root
      store r store'

  -- the request whose tables these are
  itself : plans.Lent T.refs T.types T.members T.fields T.sets T.selections T.fragments T.nodes T.variables P
  itself = record {
    same_refs = refl;
    same_types = refl;
    same_members = refl;
    same_fields = refl;
    same_sets = refl;
    same_selections = refl;
    same_fragments = refl;
    same_nodes = refl;
    same_variables = refl;
  }

  -- ---- no plan: the walk stops

  stops : (cs : Choices) {store store' : List ℕ} {code : ℕ} → Stopped P (operation_of P) store 0 T.root code store' → execute (record { tables = T }) cs ≡ stop code []
  unfolding execute execute_selection_set ◌>>=◌ onward
  stops cs s = rw (s.stops cs)

  pub stopped_before : (cs text errors : List ℕ) {r : Result Plan Outcome} {o : Outcome} {code : ℕ} {store store' : List ℕ} {d : Done} → r ≡ Err o
      → PlansOperation store r store' → code ≡ code_of o → d ≡ record { what = Err (Stop code); state = at_start }
      → Gives as_data cs text errors at_start (execute (record { tables = T }) cs) d text errors
  unfolding halt
  stopped_before cs text errors {o = o} q p c e = rw (e, c, stops cs (rw q at (p.comes P itself))) (stopped_gives (code_of o))

  -- ---- a plan: its groups

  module _ (h : lawful T ≡ true) where
    pub operation_storable : Storable T.refs T.types T.fields T.sets T.selections T.fragments (replicate 8192 0) T.root
    operation_storable = record {
      fitting = (sound_of T h).fitting;
      collectable = (sound_of T h).collectable;
      known = (sound_of T h).answerable.objects T.root
          (and_right (is_row (rows_of T.types type_width) T.root) (object_kind (type_at T.types T.root).kind) (root_is_object T h));
      room = omega (arith, length-replicate {A = ℕ} 8192 0);
      small = omega (arith, length-replicate {A = ℕ} 8192 0);
    }

    module _ {r : Result Plan Outcome} {store' : List ℕ} {own : Plan} (p : PlansOperation (replicate 8192 0) r store') (q : r ≡ Ok own) where
      made : Made P (operation_of P) (replicate 8192 0) 0 T.root own.plan own.top store'
      made = rw q at (p.comes P itself)

      -- what the groups rest on
      pub operation_ready : {path : Path} {rows : Range} → path.count ≡ 0 → rows ≡ rows_of_object (answer_at T.answers 0)
          → SetReady P store' (replicate 4224 0) (replicate 1024 0) path (record { at = 0; errs = 0; choice = 0; top = own.top }) own.plan T.root rows
      operation_ready c e = record {
        ready = record {
          sound = sound_of T h;
          standing = made.standing;
          small = omega (arith, p.sized, length-replicate {A = ℕ} 8192 0);
          spaced = length-replicate {A = ℕ} 4224 0;
          hinted = length-replicate {A = ℕ} 1024 0;
          short = omega arith;
        };
        planned = record { set = operation_of P; right = made.right };
        leads = rw e (rows_led (answer_at T.answers 0) ((sound_of T h).answerable.leads 0));
      }

      pub operation_executed : {cs text errors spans hints text' errors' plans' spans' hints' : List ℕ} {path : Path} {rows : Range} {d : Done}
          → path_of path ≡ [] → path.count ≡ 0
          → rows ≡ rows_of_object (answer_at T.answers 0)
          → SetDone P cs text errors store' spans hints path (record { at = 0; errs = 0; choice = 0; top = own.top }) own.plan T.root rows d text' errors' plans' spans'
          hints'
          → Gives as_data cs text errors at_start (execute (record { tables = T }) cs) d text' errors'
      operation_executed {cs} pe ce re x =
          let g = rw (pe, ce, re) at (x.executes (operation_of P) made.right) in
          rw (execute_root T.pool T.names T.refs T.types T.members T.fields T.arguments T.sets T.selections T.given T.fragments
          T.nodes T.literals T.variables T.answers T.root)
          (record { what = g.what; wrote = g.wrote; noted = g.noted; chosen = g.chosen })
