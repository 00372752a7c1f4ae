-- The answer in a row and an argument that is echoed, arm by arm. Assumes nothing.
use mathlib.Core.Path.{◌≡◌, refl}
use mathlib.Core.List.{List, []}
use Rattle.std.specs.Prelude.{Option, Some, None}
use Prim.Native.Nat.{ℕ, suc, ◌≤◌}
use native.Mathlib.Decide.{dec_le}
use native.Mathlib.Omega.{arith}
use borrow.Author.Tests.{le-leb, lt-leb}
use lib.Dec.{leb}
use Rattle.rows.specs.Layout.{node_width}
use Rattle.rows.specs.Rows.{rows_of}
use Rattle.rows.specs.Answers.{answer_at}
use Rattle.rows.specs.declared.layout.Range.{Range}
use Rattle.rows.specs.declared.answers.Answer.{Answer}
use Rattle.rows.specs.declared.answers.Answer.TheVariants as answer
use Rattle.codes.specs.Outcome.{too_far, most_open}
use Rattle.graphql.specs.Run.{Choices, pure, halt, when, onward, ◌>>=◌}
use Rattle.graphql.specs.Json.{Json, containers}
use Rattle.graphql.specs.Values.{node_value}
use Rattle.graphql.specs.Coerce.{Arguments}
use Rattle.graphql.specs.Request.{Request}
use Rattle.graphql.specs.Complete.{coerce_arguments, from_answer, from_argument, given, a_leaf, echoed, resolved}
use Rattle.values.specs.Room.{Within}
use Rattle.values.proofs.Room.{node_within}
use Rattle.input_coercion.specs.Ends.{Valued}
use Rattle.echoing.specs.Source.{SourceOf}
use Rattle.echoing.specs.declared.echo.Source.{Source}
use Rattle.echoing.specs.declared.echo.Source.TheVariants as source
use Rattle.leaves.specs.declared.leaf.Leaf as code
use Rattle.leaves.specs.declared.leaf.Leaf.TheVariants as leaf
use Rattle.leaves.specs.Leaves.{leaf_of}
use Rattle.walking.proofs.RunLaws.{bind_at}
use Rattle.resolving.specs.Sound.{Leads}
use Rattle.resolving.specs.Resolve.{Valuing, Resolved, Gave, ResolvesRow, EchoesArgument}
use Rattle.resolving.specs.declared.resolve.Asked.{Asked}
use Rattle.resolving.specs.declared.resolve.Given.TheVariants as value
use Rattle.codes.specs.declared.errors.FieldError.TheVariants as error
use Rattle.std.specs.Prelude.{Ok, Err}

-- ---- An argument

echo_none : (Q : Request) (n : ℕ) {found : Option Json} → found ≡ None → Gave Q (echoed Q n found) (Err error.Resolver)
unfolding echoed
echo_none Q n h = rw h (refl, λ k. refl)

echo_some : (Q : Request) (n : ℕ) {found : Option Json} {j : Json} (l : code.Leaf) → found ≡ Some j → Valuing Q l j
    → Gave Q (echoed Q n found) (Ok (Some (value.Leaf l)))
unfolding echoed
echo_some Q n {j = j} l h m = rw h (record { taken = record { origin = from_argument n; json = j }; means = m; is = λ k. refl })

module _ {arguments gives literals variables : List ℕ} {asked : Asked} {name : ℕ} {s : Option Source}
    (h : SourceOf arguments gives literals variables asked.definitions asked.written name s) where
  pub echo_absent : s ≡ None → EchoesArgument arguments gives literals variables asked name (Err error.Resolver)
  unfolding coerce_arguments
  echo_absent e = record {
    echoes = λ pool names refs types members fields sets selections fragments nodes answers g args a.
        echo_none _ name ((rw e at h).stands pool names refs types fields nodes a.path args a.comes);
  }

  echo_node : {row : ℕ} → s ≡ Some (source.Node row)
      → EchoesArgument arguments gives literals variables asked name (Ok (Some (value.Leaf (leaf.Node row))))
  unfolding coerce_arguments
  echo_node {row} e = record {
    echoes = λ pool names refs types members fields sets selections fragments nodes answers g args a.
        let f = (rw e at h).stands pool names refs types fields nodes a.path args a.comes in
        echo_some _ name (leaf.Node row) f.is f.comes;
  }

  echo_literal : {ty row : ℕ} → s ≡ Some (source.Literal ty row)
      → EchoesArgument arguments gives literals variables asked name (Ok (Some (value.Leaf (leaf.Literal ty row))))
  unfolding coerce_arguments
  echo_literal {ty} {row} e = record {
    echoes = λ pool names refs types members fields sets selections fragments nodes answers g args a.
        let f = (rw e at h).stands pool names refs types fields nodes a.path args a.comes in
        echo_some _ name (leaf.Literal ty row) f.found.is (record { path = a.path; comes = f.found.comes; shaped = f.shaped });
  }

  echo_default_lem : {row : ℕ} → s ≡ Some (source.Default row)
      → EchoesArgument arguments gives literals variables asked name (Ok (Some (value.Leaf (leaf.Default row))))
  unfolding coerce_arguments
  echo_default_lem {row} e = record {
    echoes = λ pool names refs types members fields sets selections fragments nodes answers g args a.
        let f = (rw e at h).stands pool names refs types fields nodes a.path args a.comes in
        echo_some _ name (leaf.Default row) f.is f.comes;
  }

  pub echo_source : (found : Source) → s ≡ Some found → EchoesArgument arguments gives literals variables asked name (Ok (Some (value.Leaf (leaf_of found))))
  echo_source (source.Node row) e = echo_node e
  echo_source (source.Literal ty row) e = echo_literal e
  echo_source (source.Default row) e = echo_default_lem e

-- ---- A node, which has a value in the room of all nodes

take_node : (Q : Request) (args : Arguments) (row node : ℕ)
    → Valued (node_value Q.tables.pool Q.tables.nodes (suc (rows_of Q.tables.nodes node_width)) node)
    → Gave Q (resolved Q args row (answer.Leaf node)) (Ok (Some (value.Leaf (leaf.Node node))))
unfolding resolved pure when halt ◌>>=◌ onward
take_node Q args row node v = record {
  taken = record { origin = from_answer row; json = v.value };
  means = record { log = []; from = []; to = []; is = v.is [] };
  is = λ k. go k (dec_le (containers v.value) most_open);
}
  where
    w : Within most_open (containers v.value) v.value (node_value Q.tables.pool Q.tables.nodes most_open node)
    w = node_within Q.tables.pool Q.tables.nodes _ most_open node v.value [] [] [] (v.is [])

    go : (k : Choices) → Dec (containers v.value ≤ most_open)
        → (node_value Q.tables.pool Q.tables.nodes most_open node
        >>= λ j. pure (given (a_leaf (record { origin = from_answer row; json = j })))) k
        ≡ when (leb (containers v.value) most_open) (pure (given (a_leaf (record { origin = from_answer row; json = v.value })))) (halt too_far) k
    go k (yes p) = rw (le-leb (containers v.value) most_open p) (bind_at (node_value _ _ most_open node) _ k (w.fits p k))
    go k (no p) =
        rw (lt-leb (containers v.value) most_open (omega arith), w.full (omega arith) k)

-- ---- An answer

module _ {arguments gives literals variables answers : List ℕ} {asked : Asked} {row : ℕ} {a : Answer} (t : a ≡ answer_at answers row) where
  pub row_skip : a ≡ answer.Skip → ResolvesRow arguments gives literals variables answers asked row (Ok None)
  unfolding resolved
  row_skip e = record {
    resolves = λ pool names refs types members fields sets selections fragments nodes v. record { gave = λ g args q. rw (← t, e) (λ k. refl) };
  }

  pub row_error : a ≡ answer.Error → ResolvesRow arguments gives literals variables answers asked row (Err error.Resolver)
  unfolding resolved
  row_error e = record {
    resolves = λ pool names refs types members fields sets selections fragments nodes v. record { gave = λ g args q. rw (← t, e) (refl, λ k. refl) };
  }

  pub row_unknown : a ≡ answer.Unknown → ResolvesRow arguments gives literals variables answers asked row (Err error.Resolver)
  unfolding resolved
  row_unknown e = record {
    resolves = λ pool names refs types members fields sets selections fragments nodes v. record { gave = λ g args q. rw (← t, e) (refl, λ k. refl) };
  }

  pub row_leaf : {node : ℕ} → a ≡ answer.Leaf node
      → ResolvesRow arguments gives literals variables answers asked row (Ok (Some (value.Leaf (leaf.Node node))))
  row_leaf {node} e = record {
    resolves = λ pool names refs types members fields sets selections fragments nodes v.
        record { gave = λ g args q. rw (← t, e) (take_node _ args row node (v node)) };
  }

  pub row_list : {rows : Range} → a ≡ answer.List rows → Leads (answer_at answers row)
      → ResolvesRow arguments gives literals variables answers asked row (Ok (Some (value.List rows)))
  unfolding resolved
  row_list {rows} e l = record {
    resolves = λ pool names refs types members fields sets selections fragments nodes v.
        record { gave = λ g args q. (rw (← t, e) at l, rw (← t, e) (λ k. refl)) };
  }

  pub row_object : {name : ℕ} {rows : Range} → a ≡ answer.Object name rows → Leads (answer_at answers row)
      → ResolvesRow arguments gives literals variables answers asked row (Ok (Some (value.Object name rows)))
  unfolding resolved
  row_object {name} {rows} e l = record {
    resolves = λ pool names refs types members fields sets selections fragments nodes v.
        record { gave = λ g args q. (rw (← t, e) at l, rw (← t, e) (λ k. refl)) };
  }

  pub row_echo : {name : ℕ} {r : Resolved} → a ≡ answer.Echo name → EchoesArgument arguments gives literals variables asked name r
      → ResolvesRow arguments gives literals variables answers asked row r
  unfolding resolved
  row_echo e h = record {
    resolves = λ pool names refs types members fields sets selections fragments nodes v.
        record { gave = λ g args q. rw (← t, e) (h.echoes pool names refs types members fields sets selections fragments nodes answers g args q) };
  }
