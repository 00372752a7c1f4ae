-- The sort of a node, or of a literal, is the sort of its value: a value that is there is the variant's own, with whatever parts. Assumes nothing.
use mathlib.Core.Path.{◌≡◌, refl, sym}
use mathlib.Core.Bool.{true, false}
use mathlib.Core.List.{List, map}
use Rattle.std.specs.Prelude.{Some}
use Prim.Native.Nat.{ℕ, zero, suc, ◌+◌, ◌*◌}
use native.Mathlib.Omega.{arith}
use Rattle.rows.specs.Strings.{text_of}
use Rattle.rows.specs.Names.{name_text}
use Rattle.rows.specs.Json.{node_at, node_key, literal_at, literal_key}
use Rattle.rows.specs.declared.json.Node.{Node}
use Rattle.rows.specs.declared.json.Node.TheVariants as node
use Rattle.rows.specs.declared.json.Literal.{Literal}
use Rattle.rows.specs.declared.json.Literal.TheVariants as literal
use Rattle.graphql.specs.Run.{Log, Choices, M, Res, stop, failed, done, pure, halt, after, onward, in_order, ◌>>=◌}
use Rattle.graphql.specs.Json.{Json, sort_of}
use Rattle.graphql.specs.Json as json
use Rattle.graphql.specs.Lookup.{rows_in}
use Rattle.graphql.specs.Values.{opened, array_of, object_of, value_of, node_value, parts_of, part_by_part}
use Rattle.values.specs.Plain.{node_sort, NodeSorted}
use Rattle.values.specs.Literals.{literal_sort, LiteralSorted}
use Rattle.values.proofs.Insides.{insides, node_is, literal_is}

module _ (j : Json) (log : Log) (c c' : Choices) where
  plainly : (v : Json) → pure v c ≡ done j log c' → sort_of v ≡ sort_of j
  unfolding pure
  plainly v e = let s : v ≡ j = cc in rw s

  -- what parts are put together to is a container, whatever they are
  together : (room : ℕ) (m : M (List Json)) (make : List Json → Json) → ((js : List Json) → sort_of (make js) ≡ json.a_container)
      → opened room (m >>= λ js. pure (make js)) c ≡ done j log c' → json.a_container ≡ sort_of j
  unfolding opened halt ◌>>=◌ onward after pure
  together zero m make k e = absurd (let z : ◌≡◌ {A = ℕ} 0 1 = cc in omega arith)
  together (suc room) m make k e = go (m c) e
    where
      go : (x : Res (List Json)) → onward x (λ js. pure (make js)) ≡ done j log c' → json.a_container ≡ sort_of j
      go (stop s w) e = absurd (let z : ◌≡◌ {A = ℕ} 0 1 = cc in omega arith)
      go (failed r w d) e = absurd (let z : ◌≡◌ {A = ℕ} 0 1 = cc in omega arith)
      go (done js w d) e = let s : make js ≡ j = cc in rw (← s) (sym (k js))

  module _ (pool nodes : List ℕ) (room : ℕ) (inside : ℕ → M Json) where
    by_variant : (n : Node) → value_of pool nodes room inside n c ≡ done j log c' → node_sort n ≡ sort_of j
    unfolding value_of array_of object_of sort_of
    by_variant node.Null e = plainly json.null e
    by_variant node.False e = plainly (json.bool false) e
    by_variant node.True e = plainly (json.bool true) e
    by_variant (node.Natural low high) e = plainly (json.natural (low + 4294967296 * high)) e
    by_variant (node.Negative low high) e = plainly (json.negative (low + 4294967296 * high)) e
    by_variant (node.Float text) e = plainly (json.float (text_of pool text)) e
    by_variant (node.String text) e = plainly (json.string (text_of pool text)) e
    by_variant (node.Array rows) e = together room (in_order inside (rows_in rows)) (λ js. json.array (json.items js)) (λ js. refl) e
    by_variant (node.Object rows) e =
        together room (in_order inside (rows_in rows))
        (λ js. json.object (json.members (map (λ row. text_of pool (node_key nodes row)) (rows_in rows)) (map Some js)))
        (λ js. refl) e
    by_variant node.Unknown e = plainly json.null e

  module _ (pool names literals : List ℕ) (room : ℕ) (inside : ℕ → M Json) where
    by_literal : (l : Literal) → parts_of pool names literals room inside l c ≡ done j log c' → literal_sort l ≡ sort_of j
    unfolding parts_of array_of object_of halt sort_of
    by_literal literal.Null e = plainly json.null e
    by_literal literal.False e = plainly (json.bool false) e
    by_literal literal.True e = plainly (json.bool true) e
    by_literal (literal.Natural n) e = plainly (json.natural n) e
    by_literal (literal.Negative m) e = plainly (json.negative m) e
    by_literal (literal.Float text) e = plainly (json.float (text_of pool text)) e
    by_literal (literal.String text) e = plainly (json.string (text_of pool text)) e
    by_literal (literal.List rows) e = together room (in_order inside (rows_in rows)) (λ js. json.array (json.items js)) (λ js. refl) e
    by_literal (literal.Object rows) e =
        together room (in_order inside (rows_in rows))
        (λ js. json.object (json.members (map (λ row. name_text pool names (literal_key literals row)) (rows_in rows)) (map Some js)))
        (λ js. refl) e
    by_literal (literal.Enum name) e = plainly (json.string (name_text pool names name)) e
    by_literal (literal.Variable name) e = absurd (let z : ◌≡◌ {A = ℕ} 0 1 = cc in omega arith)
    by_literal literal.Unknown e = plainly json.null e

pub node_sorted : NodeSorted
node_sorted pool nodes room row j log c c' e =
    by_variant j log c c' pool nodes room (insides (node_value pool nodes) room) (node_at nodes row) (rw (node_is pool nodes room row) at e)

pub literal_sorted : LiteralSorted
literal_sorted pool names literals room row j log c c' e =
    by_literal j log c c' pool names literals room (insides (part_by_part pool names literals) room) (literal_at literals row)
    (rw (literal_is pool names literals room row) at e)
