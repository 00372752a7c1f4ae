-- A leaf that is written and then judged, way by way. Assumes nothing.
use mathlib.Core.Path.{◌≡◌, refl, sym, ap, ◌∙◌}
use mathlib.Core.Bool.{true, false}
use mathlib.Core.List.{List, [], ◌∷◌, ◌++◌}
use Prim.Native.Nat.{ℕ, ◌≤◌}
use native.Mathlib.Decide.{dec_le}
use native.Mathlib.Omega.{arith}
use borrow.Author.Tests.{le-leb, lt-leb}
use lib.Dec.{leb}
use Rattle.codes.specs.Outcome.{too_far, most_open}
use Rattle.codes.specs.declared.errors.FieldError.{FieldError}
use Rattle.writing.specs.Wrote.{Wrote}
use Rattle.graphql.specs.Run.{here, when}
use Rattle.graphql.specs.Json.{Json, containers, print}
use Rattle.graphql.specs.Data.{leaf, val, print_data}
use Rattle.graphql.specs.Errors.{error_of}
use Rattle.graphql.specs.Collect.{Group}
use Rattle.graphql.specs.Request.{Request}
use Rattle.graphql.specs.Complete.{Leaf, field_place, field_error, complete_leaf_value}
use Rattle.graphql.specs.Run as run
use Rattle.values.specs.declared.sort.Sort.{Sort}
use Rattle.echoing.specs.Echo.{Put}
use Rattle.completing.specs.Judged.{judged, JudgesLeaf}
use Rattle.completing.specs.Judged.{Verdict}
use Rattle.leaves.specs.Leaves.{Means, PutsLeaf, SortsLeaf, SpellsLeaf}
use Rattle.leaves.specs.declared.leaf.Leaf as code
use Rattle.walking.specs.Gives.{moved_to}
use Rattle.walking.specs.Paths.{segment_of, path_of, error_at}
use Rattle.walking.specs.Settled.{FailsWith}
use Rattle.walking.specs.declared.path.Path.{Path}
use Rattle.walking.specs.declared.state.State.{State}
use Rattle.walking.specs.declared.state.Kind.TheVariants as kind
use Rattle.walking.specs.declared.state.Failure.{Failure}
use Rattle.walking.specs.declared.state.Failure.TheVariants.{Here, Stop}
use Rattle.std.specs.Prelude.{Some, None, Ok, Err}
use Rattle.walking.specs.declared.state.Done.{Done}
use Rattle.walking.proofs.Ended.{fails_back, stopped_long, placed_gives}
use Rattle.resolving.specs.Sound.{asking}
use Rattle.resolving.specs.Resolve.{Valuing, CompletesAt}
use Rattle.resolving.proofs.AtField.{field_error_place, leaf_at_field}

module _ {pool names refs types fields nodes literals variables : List ℕ} {code_leaf : code.Leaf} {text text' : List ℕ} {at : ℕ} {w : Put}
    (h : PutsLeaf pool names refs types fields nodes literals variables code_leaf text at w text') (j : Json)
    (m : Means pool names refs types fields nodes literals variables code_leaf j) where
  -- It was too far: so many containers the value opens.
  too_many : w ≡ None → leb (containers j) most_open ≡ false
  too_many e = go (dec_le (containers j) most_open)
    where
      go : Dec (containers j ≤ most_open) → leb (containers j) most_open ≡ false
      go (yes p) = let f = ((h.puts j m).fits p).is in absurd (let z : ◌≡◌ {A = ℕ} 0 1 = cc in omega arith)
      go (no p) = lt-leb (containers j) most_open (omega arith)

  -- It was written: it does not open too many.
  written : {end : ℕ} → w ≡ Some end → (leb (containers j) most_open ≡ true) × Wrote text text' at end (print j)
  written {end} e = go (dec_le (containers j) most_open)
    where
      go : Dec (containers j ≤ most_open) → (leb (containers j) most_open ≡ true) × Wrote text text' at end (print j)
      go (yes p) =
          let f = (h.puts j m).fits p in
          let z : f.end ≡ end = cc in
          (le-leb (containers j) most_open p, rw (← z) f.writes.wrote)
      go (no p) = let f = (h.puts j m).full (omega arith) in absurd (let z : ◌≡◌ {A = ℕ} 0 1 = cc in omega arith)

-- What is judged is the definition's completion.
comes : (Q : Request) {code_leaf : code.Leaf} {ty : ℕ} {sort : Sort} {string : List ℕ} {v : Verdict}
    → SortsLeaf Q.tables.refs Q.tables.types Q.tables.nodes Q.tables.literals code_leaf sort
    → SpellsLeaf Q.tables.pool Q.tables.names Q.tables.nodes Q.tables.literals code_leaf string
    → JudgesLeaf Q.tables.pool Q.tables.names Q.tables.refs Q.tables.types Q.tables.members ty sort string v
    → (l : Leaf) → Valuing Q code_leaf l.json → (g : Group) (p : run.Path) → complete_leaf_value Q ty l g p ≡ judged Q v l g p
comes Q sorts spells judges l m g p =
    judges.comes (record { of_pool = refl; of_names = refl; of_refs = refl; of_types = refl; of_members = refl }) l
    (record {
      sorted = sym (sorts.sorts Q.tables.pool Q.tables.names Q.tables.fields Q.tables.variables l.json m);
      spelled = λ t z. spells.spells Q.tables.refs Q.tables.types Q.tables.fields Q.tables.variables l.json t m z;
    }) g p

module _ {pool names refs types members fields nodes literals variables : List ℕ} {code_leaf : code.Leaf} {text text' errors : List ℕ} {ty spot last : ℕ}
    {path : Path} {s : State} {w : Put} (h : PutsLeaf pool names refs types fields nodes literals variables code_leaf text s.at w text') where
  pub leaf_too_far : {code : ℕ} {d : Done} → w ≡ None → code ≡ too_far → d ≡ record { what = Err (Stop code); state = s }
      → CompletesAt pool names refs types members fields nodes literals variables ty code_leaf spot path last text errors s d text' errors
  unfolding when
  leaf_too_far e c q = rw (q, c) (record {
    level = refl;
    completes = λ arguments sets selections given fragments answers.
        record { comes = λ cs g l o m. rw (too_many h l.json m e) (stopped_long too_far h.long) };
  })

  module _ {end : ℕ} (e : w ≡ Some end) {sort : Sort} {string : List ℕ} {v : Verdict} (sorts : SortsLeaf refs types nodes literals code_leaf sort)
      (spells : SpellsLeaf pool names nodes literals code_leaf string) (judges : JudgesLeaf pool names refs types members ty sort string v) where
    pub leaf_fits : {d : Done} → v ≡ Ok tt → d ≡ record { what = Ok kind.Leaf; state = moved_to s end }
        → CompletesAt pool names refs types members fields nodes literals variables ty code_leaf spot path last text errors s d text' errors
    unfolding when print_data
    leaf_fits f q = rw q (record {
      level = refl;
      completes = λ arguments sets selections given fragments answers.
          record {
            comes = λ cs g l o m.
                let Q = asking pool names refs types members fields arguments sets selections given fragments nodes literals variables answers in
                let r = written h l.json m e in
                rw (r.0, comes Q sorts spells judges l m g (path_of path ++ (segment_of last ∷ [])), f)
                (placed_gives (val (leaf l.json)) r.1);
          };
    })

    pub leaf_error : {d : Done} {errors' : List ℕ} {x : FieldError} {failure : Failure} → v ≡ Err x → failure ≡ Here
        → FailsWith failure (error_at x spot path last) errors s d errors'
        → CompletesAt pool names refs types members fields nodes literals variables ty code_leaf spot path last text errors s d text' errors'
    unfolding when field_error error_of
    leaf_error {x = x} f b fails = record {
      level = fails.level;
      completes = λ arguments sets selections given fragments answers.
          record {
            comes = λ cs g l o m.
                let Q = asking pool names refs types members fields arguments sets selections given fragments nodes literals variables answers in
                let p = path_of path ++ (segment_of last ∷ []) in
                let r = written h l.json m e in
                let c = comes Q sorts spells judges l m g p ∙ ap (λ v. judged Q v l g p) f in
                let z = field_error_place Q g p x (field_place Q g) (leaf_at_field Q g p ty l) c in
                rw (r.0, c, z, ← o) (fails_back here (rw b at fails) r.1);
          };
    }
