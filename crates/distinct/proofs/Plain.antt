-- Which nodes are objects, by their kind; and nodes that have fewer than two keys have no double. Assumes nothing.
use mathlib.Core.Path.{◌≡◌, refl, sym}
use mathlib.Core.Bool.{Bool, true, false, cond}
use mathlib.Core.List.{List}
use Prim.Native.Nat.{ℕ}
use lib.Dec.{eqb}
use borrow.Author.Tests.{ne_eqb, ltb-true}
use Rattle.rows.specs.Rows.{all}
use Rattle.rows.specs.Json.{node_at, node_of}
use Rattle.rules.specs.Json.{object_rows, other_key, key_new, keys_distinct, node_keys_differ}
use Rattle.rows.specs.declared.layout.Range.{Range}
use Rattle.rows.specs.declared.json.Node.{Node}
use Rattle.rows.proofs.Every.{all_at, all_each}
use Rattle.distinct.specs.Differ.{is_other, differ}
use Rattle.distinct.specs.Plain.{is_plain}
use Rattle.distinct.proofs.Differ.{differ_few}

abbrev none : Range
none = record { first = 0; count = 0 }

either : (b : Bool) (x y : Node) → object_rows x ≡ none → object_rows y ≡ none → object_rows (cond b x y) ≡ none
either true x y e f = e
either false x y e f = f

-- a node of another kind than 8 is no object
pub no_object : (kind a b : ℕ) → (kind ≡ 8 → ⊥) → none ≡ object_rows (node_of kind a b)
no_object kind a b n =
    sym
    (either (eqb kind 0) _ _ refl
    (either (eqb kind 1) _ _ refl
    (either (eqb kind 2) _ _ refl
    (either (eqb kind 3) _ _ refl
    (either (eqb kind 4) _ _ refl
    (either (eqb kind 5) _ _ refl
    (either (eqb kind 6) _ _ refl
    (either (eqb kind 7) _ _ refl
    (rw (ne_eqb kind 8 n))))))))))

-- where all nodes are plain, there are no doubles
pub plain_differ : (pool nodes : List ℕ) (n : ℕ) → all (is_plain nodes) n ≡ true → all (node_keys_differ pool nodes) n ≡ true
unfolding keys_distinct key_new differ is_other
plain_differ pool nodes n h =
    all_each (node_keys_differ pool nodes) n
    (λ row l. differ_few (other_key pool nodes) (object_rows (node_at nodes row)).first (object_rows (node_at nodes row)).count
    (ltb-true (object_rows (node_at nodes row)).count 2 (all_at (is_plain nodes) row n l h)))
