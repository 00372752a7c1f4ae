-- The text of a leaf, way by way. Assumes nothing.
use mathlib.Core.Path.{◌≡◌, refl}
use mathlib.Core.List.{List, []}
use Rattle.std.specs.Prelude.{Some, Result}
use Rattle.std.specs.Result.{result_ok}
use Prim.Native.Nat.{ℕ, suc}
use native.Mathlib.Omega.{arith}
use Rattle.rows.specs.Layout.{node_width}
use Rattle.rows.specs.Rows.{rows_of}
use Rattle.rows.specs.Names.{name_text}
use Rattle.codes.specs.Outcome.{most_open}
use Rattle.codes.specs.declared.outcome.Outcome.{Outcome}
use Rattle.tokens.specs.Escape.{quoted}
use Rattle.writing.specs.Wrote.{Writes}
use Rattle.graphql.specs.Json.{print, containers}
use Rattle.values.specs.Put.{PutsNode}
use Rattle.values.proofs.Room.{node_within}
use Rattle.echoing.specs.Echo.{Put, Echoes, of_part, of_value}
use Rattle.echoing.proofs.Leaves.{puts_long, within_shown}
use Rattle.echoing.proofs.Walk.{literals_parted_lem}
use Rattle.leaves.specs.Leaves.{PutsLeaf}
use Rattle.leaves.specs.declared.leaf.Leaf.{Leaf}
use Rattle.leaves.specs.declared.leaf.Leaf.TheVariants as leaf

module _ (pool names refs types fields nodes literals variables : List ℕ) {l : Leaf} {text text' : List ℕ} {at : ℕ} where
  pub puts_name : {name end : ℕ} {bytes : List ℕ} → l ≡ leaf.Name name → bytes ≡ name_text pool names name
      → Writes text text' at end (quoted bytes) → PutsLeaf pool names refs types fields nodes literals variables l text at (Some end) text'
  unfolding print containers
  puts_name h b w =
      rw h
      (record {
        long = w.wrote.long;
        puts = λ j q.
            rw q (record { fits = λ f. record { end = _; is = refl; writes = rw b at w }; full = λ f. absurd (omega arith) });
      })

  module _ {r : Put} where
    -- its value, of whatever size, is there or too far in the room that a leaf has
    pub puts_node : {row : ℕ} {q : Result ℕ Outcome} → l ≡ leaf.Node row → PutsNode pool nodes most_open row text at q text' → r ≡ result_ok q
        → PutsLeaf pool names refs types fields nodes literals variables l text at r text'
    puts_node {row} h w e =
        rw (h, e)
        (record {
          long = puts_long w;
          puts = λ j q.
              within_shown w most_open j
              (node_within pool nodes (suc (rows_of nodes node_width)) most_open row j q.log q.from q.to q.is);
        })

    pub puts_literal : {ty row : ℕ} → l ≡ leaf.Literal ty row
        → Echoes most_open (of_value pool names refs types fields nodes literals variables most_open ty row) text at r text'
        → PutsLeaf pool names refs types fields nodes literals variables l text at r text'
    unfolding of_value
    puts_literal h w = rw h (record { long = w.long; puts = λ j q. w.shown q.path j q.comes })

    pub puts_default : {row : ℕ} → l ≡ leaf.Default row → Echoes most_open (of_part pool names literals most_open row) text at r text'
        → PutsLeaf pool names refs types fields nodes literals variables l text at r text'
    unfolding of_part
    puts_default h w = rw h (record { long = w.long; puts = λ j q. w.shown [] j q })

pub ruleset putting = (literals_parted_lem, puts_name, puts_node, puts_literal, puts_default)
