-- The walk through a node, way by way: what a function knows where it returns is what the definition says there. Assumes nothing.
use mathlib.Core.Path.{◌≡◌, refl, sym, ◌∙◌}
use mathlib.Core.Bool.{Bool, true, false}
use mathlib.Core.List.{List}
use Rattle.std.specs.Prelude.{Option, Some, None, Ok}
use Prim.Native.Nat.{ℕ, zero, suc, ◌+◌, ◌≤◌}
use native.Mathlib.Omega.{arith}
use Rattle.rows.specs.Limits.{most_nodes}
use Rattle.rows.specs.Json.{node_at}
use Rattle.rows.specs.declared.layout.Range.{Range}
use Rattle.rows.specs.declared.json.Node.{Node}
use Rattle.rows.specs.declared.json.Node.TheVariants as node
use Rattle.writing.specs.Wrote.{Writes}
use Rattle.graphql.specs.Run.{M, pure}
use Rattle.graphql.specs.Json.{Json, print}
use Rattle.graphql.specs.Lookup.{rows_in}
use Rattle.graphql.specs.Values.{value_of, node_value}
use Rattle.values.specs.Plain.{plain_value}
use Rattle.values.specs.Put.{Put, shape_of, Parted, key_text, container_of, contained, container_value, PutsContainer, PutsNode}
use Rattle.values.specs.declared.node.Parts.{Parts}
use Rattle.values.proofs.Ends.{ends_at}
use Rattle.values.proofs.Nodes.{container_node, shape_container}
use Rattle.values.proofs.Containers.{containing}

-- ---- a node is plain or a container

module _ (pool nodes : List ℕ) (room : ℕ) (inside : ℕ → M Json) where
  value_plain : (n : Node) → shape_of n ≡ None → value_of pool nodes room inside n ≡ pure (plain_value pool n)
  unfolding value_of plain_value
  value_plain node.Null e = refl
  value_plain node.False e = refl
  value_plain node.True e = refl
  value_plain (node.Natural low high) e = refl
  value_plain (node.Negative low high) e = refl
  value_plain (node.Float text) e = refl
  value_plain (node.String text) e = refl
  value_plain (node.Array rows) e = absurd (let z : ◌≡◌ {A = ℕ} 0 1 = cc in omega arith)
  value_plain (node.Object rows) e = absurd (let z : ◌≡◌ {A = ℕ} 0 1 = cc in omega arith)
  value_plain node.Unknown e = refl

  value_container : (n : Node) (parts : Parts) → shape_of n ≡ Some parts
      → value_of pool nodes room inside n ≡ container_of (key_text pool nodes) room inside parts.keyed (rows_in parts.rows)
  unfolding value_of container_of container_node
  value_container n parts e = rw (shape_container n parts e) (go parts.keyed parts.rows)
    where
      go : (k : Bool) (range : Range) → value_of pool nodes room inside (container_node k range)
          ≡ container_of (key_text pool nodes) room inside k (rows_in range)
      go false range = refl
      go true range = refl

module _ (pool nodes : List ℕ) (row : ℕ) where
  node_is_plain : (room : ℕ) → shape_of (node_at nodes row) ≡ None → node_value pool nodes room row ≡ pure (plain_value pool (node_at nodes row))
  unfolding node_value
  node_is_plain zero e = value_plain pool nodes zero _ (node_at nodes row) e
  node_is_plain (suc room) e = value_plain pool nodes (suc room) _ (node_at nodes row) e

  node_is_container : (room : ℕ) (parts : Parts) → shape_of (node_at nodes row) ≡ Some parts
      → node_value pool nodes room row ≡ container_value pool nodes room parts
  unfolding node_value contained
  node_is_container zero parts e = value_container pool nodes zero _ (node_at nodes row) parts e
  node_is_container (suc room) parts e = value_container pool nodes (suc room) _ (node_at nodes row) parts e

module _ (pool nodes : List ℕ) (room row : ℕ) {n : Node} {s : Option Parts} (read : n ≡ node_at nodes row) (shape : s ≡ shape_of n) where
  pub node_plain : {text text' : List ℕ} {at end : ℕ} → s ≡ None → Writes text text' at end (print (plain_value pool n))
      → PutsNode pool nodes room row text at (Ok end) text'
  unfolding pure
  node_plain e w =
      let h : shape_of (node_at nodes row) ≡ None = rw read at (sym shape ∙ e) in
      ends_at (plain_value pool (node_at nodes row)) (λ c. rw (node_is_plain pool nodes row room h)) (rw read at w)

  module _ {parts : Parts} (e : s ≡ Some parts) where
    is_container_lem : shape_of (node_at nodes row) ≡ Some parts
    is_container_lem = rw read at (sym shape ∙ e)

    pub parts_within : Parted nodes → parts.rows.first + parts.rows.count ≤ most_nodes
    parts_within p = p.within row parts is_container_lem

    pub node_container : {text text' : List ℕ} {at : ℕ} {r : Put} → PutsContainer pool nodes room parts text at r text'
        → PutsNode pool nodes room row text at r text'
    node_container q = rw (node_is_container pool nodes row room parts is_container_lem) q

pub ruleset walking = (node_plain, parts_within, node_container, containing)
