-- What is written without a look inside: a literal that converts part by part, a variable, the label of a field. Assumes nothing.
use mathlib.Core.Path.{◌≡◌, refl, sym, ◌∙◌}
use mathlib.Core.List.{List, []}
use Rattle.std.specs.Prelude.{Option, Some, None, Result, Ok, Err}
use Rattle.std.specs.Result.{result_ok}
use Prim.Native.Nat.{ℕ, suc}
use native.Mathlib.Omega.{arith}
use lib.ListN.{length}
use Rattle.rows.specs.Layout.{node_width}
use Rattle.rows.specs.Rows.{rows_of}
use Rattle.rows.specs.Names.{name_text}
use Rattle.rows.specs.Schema.{field_at}
use Rattle.rows.specs.Json.{variable_at}
use Rattle.rows.specs.declared.schema.Field.{Field}
use Rattle.rows.specs.declared.json.VariableValue.{VariableValue}
use Rattle.codes.specs.declared.errors.FieldError.TheVariants as error
use Rattle.tokens.specs.Literal.{null_name}
use Rattle.writing.specs.Wrote.{Writes}
use Rattle.graphql.specs.Run.{Choices, M, pure, halt}
use Rattle.graphql.specs.Json.{Json, null, print, containers}
use Rattle.graphql.specs.Lookup.{non_null, variable_named}
use Rattle.graphql.specs.Values.{variable_value, part_by_part}
use Rattle.graphql.specs.Coerce.{null_against, coerce_variable}
use Rattle.codes.specs.declared.outcome.Outcome.{Outcome}
use Rattle.values.specs.Put.{label, label_of, ended, Ends, Puts, PutsNode}
use Rattle.values.specs.Room.{Within}
use Rattle.values.specs.Literals.{PutsLiteral}
use Rattle.values.proofs.Room.{node_within, literal_fits}
use Rattle.echoing.specs.Echo.{Comes, Shown, Shows, Echoes, field_label, of_part, of_variable, EchoesVariable}
use Rattle.echoing.proofs.Comes.{comes_pure, not_failed}

-- of a run that comes to no value nothing is asked
pub never : {K A : Type 0} (size : A → ℕ) (out : A → List ℕ) (room : ℕ) (m : K → M A) (text : List ℕ) (at : ℕ)
    → ((k : K) (v : A) → Comes (m k) v → ⊥) → Shows size out room m text at None text
never size out room m text at h = record { long = refl; shown = λ k v q. absurd (h k v q) }

pub null_shown : (room : ℕ) {j : Json} {text text' : List ℕ} {at end : ℕ} → null ≡ j → Writes text text' at end null_name
    → Shown room (containers j) (print j) text at (Some end) text'
unfolding print containers
null_shown room e w = rw (← e) (record { fits = λ l. record { end = _; is = refl; writes = w }; full = λ l. absurd (omega arith) })

-- ---- a literal

module _ (pool names literals : List ℕ) (room row : ℕ) {text text' : List ℕ} {at : ℕ} {r : Result ℕ Outcome}
    (q : PutsLiteral pool names literals room row text at r text') where
  pub literal_shown : Echoes room (of_part pool names literals room row) text at (result_ok r) text'
  unfolding of_part ended pure halt
  literal_shown = go q.value q.is q.put
    where
      go : (v : Result Json Outcome) → ((c : Choices) → part_by_part pool names literals room row c ≡ ended v c) → Ends v text at r text'
          → Echoes room (of_part pool names literals room row) text at (result_ok r) text'
      go (Ok i) is put =
          rw put.is (record {
            long = put.writes.wrote.long;
            shown = λ p j e.
                let here = is e.from in
                let came = e.is in
                let s : i ≡ j = cc in
                record {
                  fits = λ l. record { end = put.end; is = refl; writes = rw s at put.writes };
                  full = λ l. absurd (omega (arith, literal_fits pool names literals room row j e.log e.from e.to e.is));
                };
          })
      go (Err o) is put =
          rw put.is (record {
            long = put.long;
            shown = λ p j e. let here = is e.from in let came = e.is in absurd (let z : ◌≡◌ {A = ℕ} 0 1 = cc in omega arith);
          })

-- ---- a node

module _ {m : M Json} {text text' : List ℕ} {at : ℕ} {r : Result ℕ Outcome} (q : Puts m text at r text') where
  pub puts_long : length text' ≡ length text
  puts_long = go q.value q.put
    where
      go : (v : Result Json Outcome) → Ends v text at r text' → length text' ≡ length text
      go (Ok j) put = put.writes.wrote.long
      go (Err o) put = put.long

  pub within_shown : (room : ℕ) (j : Json) → Within room (containers j) j m → Shown room (containers j) (print j) text at (result_ok r) text'
  unfolding ended pure halt
  within_shown room j w = go q.value q.is q.put
    where
      go : (v : Result Json Outcome) → ((c : Choices) → m c ≡ ended v c) → Ends v text at r text'
          → Shown room (containers j) (print j) text at (result_ok r) text'
      go (Ok i) is put =
          rw put.is (record {
            fits = λ l.
                let here = is [] in
                let there = w.fits l [] in
                let s : i ≡ j = cc in
                record { end = put.end; is = refl; writes = rw s at put.writes };
            full = λ l. let here = is [] in let there = w.full l [] in absurd (let z : ◌≡◌ {A = ℕ} 0 1 = cc in omega arith);
          })
      go (Err o) is put =
          rw put.is (record {
            fits = λ l. let here = is [] in let there = w.fits l [] in absurd (let z : ◌≡◌ {A = ℕ} 0 1 = cc in omega arith);
            full = λ l. refl;
          })

-- ---- a variable

module _ (pool nodes variables : List ℕ) (room name : ℕ) {found : Option ℕ} (e : found ≡ (variable_named variables name)) {text text' : List ℕ}
    {at : ℕ} where
  pub variable_none : {end : ℕ} → found ≡ None → Writes text text' at end null_name
      → EchoesVariable pool nodes variables room name text at (Some end) text'
  unfolding of_variable coerce_variable
  variable_none h w = record {
    echoes = λ names refs types fields literals ty row. record {
      long = w.wrote.long;
      shown = λ p j q.
          null_shown room
          (comes_pure (not_failed (non_null refs ty) literals error.MissingVariable row p (pure null)
          (rw (sym e ∙ h) at q))) w;
    };
  }

  pub variable_some : {v : ℕ} {value : VariableValue} {r : Result ℕ Outcome} → found ≡ Some v → value ≡ variable_at variables v
      → PutsNode pool nodes room value.node text at r text' → EchoesVariable pool nodes variables room name text at (result_ok r) text'
  unfolding of_variable coerce_variable variable_value
  variable_some {v} h k w = record {
    echoes = λ names refs types fields literals ty row. record {
      long = puts_long w;
      shown = λ p j q.
          let n = not_failed (null_against refs nodes variables ty v) literals error.NullVariable row p (variable_value pool nodes variables v)
          (rw (sym e ∙ h) at q) in
          within_shown w room j
          (rw k (node_within pool nodes (suc (rows_of nodes node_width)) room (variable_at variables v).node j n.log n.from n.to n.is));
    };
  }

pub ruleset variabled = (variable_none, variable_some)

-- ---- the label of a field

pub field_labelled : (pool names fields : List ℕ) (field : ℕ) {t t1 bytes : List ℕ} {a a1 : ℕ} {def : Field} → def ≡ field_at fields field
    → bytes ≡ name_text pool names def.name → Writes t t1 a a1 (label_of (Some bytes))
    → Writes t t1 a a1 (field_label (name_text pool names (field_at fields field).name))
unfolding field_label label
field_labelled pool names fields field d b w = rw (b, d) at w
