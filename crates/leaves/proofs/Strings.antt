-- The bytes of a leaf that is a string, way by way. Assumes nothing.
use mathlib.Core.Path.{◌≡◌, refl}
use mathlib.Core.Bool.{true, false}
use mathlib.Core.List.{List, [], ◌∷◌}
use mathlib.Core.Logic.{◌⊎◌, inl, inr}
use Rattle.std.specs.Prelude.{Some}
use Prim.Native.Nat.{ℕ, ◌+◌, ◌*◌}
use native.Mathlib.Omega.{arith}
use types.Run.{miss}
use borrow.Enum.Refused.{Among, opened, shut}
use denote.Enum.Declared.{tag_of}
use Rattle.rows.specs.Strings.{text_of}
use Rattle.rows.specs.Names.{name_text}
use Rattle.rows.specs.Json.{node_at, literal_at}
use Rattle.rows.specs.declared.strings.Text.{Text}
use Rattle.rows.specs.declared.json.Node.{Node}
use Rattle.rows.specs.declared.json.Node.TheVariants as node
use Rattle.rows.specs.declared.json.Literal.{Literal}
use Rattle.rows.specs.declared.json.Literal.TheVariants as literal
use Rattle.rows.specs.contracts.json.Node.{the_type as node_type}
use Rattle.rows.specs.contracts.json.Literal.{the_type as literal_type}
use Rattle.codes.specs.Outcome.{most_open, variable_in_literal}
use Rattle.graphql.specs.Run.{M, pure}
use Rattle.graphql.specs.Json.{Json, null, bool, natural, negative, float, string, array, object, sort_of, string_of, a_container}
use Rattle.graphql.specs.Values.{array_of, object_of, value_of, node_value, parts_of, part_by_part}
use Rattle.values.specs.Plain.{plain_value}
use Rattle.values.specs.Literals.{plain_literal}
use Rattle.values.proofs.Insides.{insides, node_is, literal_is}
use Rattle.echoing.specs.Echo.{Comes}
use Rattle.echoing.proofs.Comes.{comes_pure, comes_halt}
use Rattle.leaves.specs.Leaves.{SpellsLeaf}
use Rattle.leaves.specs.Literals.{bytes_of}
use Rattle.leaves.specs.declared.leaf.Leaf.{Leaf}
use Rattle.leaves.specs.declared.leaf.Leaf.TheVariants as leaf
use Rattle.leaves.proofs.Coerced.{put_together, Became, as_null, as_container, as_parts, became}

-- ---- what the functions under it answer

abbrev other_nodes : List ℕ
other_nodes = 0 ∷ 1 ∷ 2 ∷ 3 ∷ 4 ∷ 5 ∷ 7 ∷ 8 ∷ 9 ∷ []

module _ (pool nodes : List ℕ) (row : ℕ) {n : Node} (e : n ≡ node_at nodes row) where
  pub node_string : {text : Text} {bytes : List ℕ} → n ≡ node.String text → bytes ≡ text_of pool text
      → bytes ≡ bytes_of (string_of (plain_value pool (node_at nodes row)))
  unfolding bytes_of string_of plain_value
  node_string h b = rw (← e, h, b)

  pub node_other : Among other_nodes (tag_of node_type n) → [] ≡ bytes_of (string_of (plain_value pool (node_at nodes row)))
  unfolding bytes_of string_of plain_value
  node_other o = rw (← e) (go n o)
    where
      go : (n : Node) → Among other_nodes (tag_of node_type n) → [] ≡ bytes_of (string_of (plain_value pool n))
      go node.Null o = refl
      go node.False o = refl
      go node.True o = refl
      go (node.Natural low high) o = refl
      go (node.Negative low high) o = refl
      go (node.Float text) o = refl
      go (node.String text) o = absurd (miss other_nodes 6 tt (opened o))
      go (node.Array rows) o = refl
      go (node.Object rows) o = refl
      go node.Unknown o = refl

abbrev other_literals : List ℕ
other_literals = 0 ∷ 1 ∷ 2 ∷ 3 ∷ 4 ∷ 5 ∷ 7 ∷ 8 ∷ 10 ∷ 11 ∷ []

module _ (pool names literals : List ℕ) (row : ℕ) {l : Literal} (e : l ≡ literal_at literals row) where
  pub literal_string : {text : Text} {bytes : List ℕ} → l ≡ literal.String text → bytes ≡ text_of pool text
      → bytes ≡ bytes_of (string_of (plain_literal pool names (literal_at literals row)))
  unfolding bytes_of string_of plain_literal
  literal_string h b = rw (← e, h, b)

  pub literal_enum : {name : ℕ} {bytes : List ℕ} → l ≡ literal.Enum name → bytes ≡ name_text pool names name
      → bytes ≡ bytes_of (string_of (plain_literal pool names (literal_at literals row)))
  unfolding bytes_of string_of plain_literal
  literal_enum h b = rw (← e, h, b)

  pub literal_other : Among other_literals (tag_of literal_type l) → [] ≡ bytes_of (string_of (plain_literal pool names (literal_at literals row)))
  unfolding bytes_of string_of plain_literal
  literal_other o = rw (← e) (go l o)
    where
      go : (l : Literal) → Among other_literals (tag_of literal_type l) → [] ≡ bytes_of (string_of (plain_literal pool names l))
      go literal.Null o = refl
      go literal.False o = refl
      go literal.True o = refl
      go (literal.Natural n) o = refl
      go (literal.Negative m) o = refl
      go (literal.Float text) o = refl
      go (literal.String text) o = absurd (miss other_literals 6 tt (opened o))
      go (literal.List rows) o = refl
      go (literal.Object rows) o = refl
      go (literal.Enum name) o = absurd (miss other_literals 9 tt (opened o))
      go (literal.Variable name) o = refl
      go literal.Unknown o = refl

pub ruleset noding = (node_string, node_other, shut)

pub ruleset literaling = (literal_string, literal_enum, literal_other, shut)

-- ---- the bytes are those of the value

module _ (j : Json) (s : List ℕ) (e : string_of j ≡ Some s) where
  -- a string is no container
  no_container : sort_of j ≡ a_container → ⊥
  unfolding sort_of string_of
  no_container = go j e
    where
      go : (j : Json) → string_of j ≡ Some s → sort_of j ≡ a_container → ⊥
      go null e h = let z : ◌≡◌ {A = ℕ} 0 1 = cc in omega arith
      go (bool b) e h = let z : ◌≡◌ {A = ℕ} 0 1 = cc in omega arith
      go (natural n) e h = let z : ◌≡◌ {A = ℕ} 0 1 = cc in omega arith
      go (negative m) e h = let z : ◌≡◌ {A = ℕ} 0 1 = cc in omega arith
      go (float spelling) e h = let z : ◌≡◌ {A = ℕ} 0 1 = cc in omega arith
      go (string t) e h = let z : ◌≡◌ {A = ℕ} 0 1 = cc in omega arith
      go (array is) e h = let z : ◌≡◌ {A = ℕ} 0 1 = cc in omega arith
      go (object ms) e h = let z : ◌≡◌ {A = ℕ} 0 1 = cc in omega arith

  plainly : (v : Json) → Comes (pure v) j → s ≡ bytes_of (string_of v)
  unfolding bytes_of
  plainly v q = rw (comes_pure q, e)

  module _ (pool nodes : List ℕ) (room : ℕ) (inside : ℕ → M Json) where
    by_node : (n : Node) → Comes (value_of pool nodes room inside n) j → s ≡ bytes_of (string_of (plain_value pool n))
    unfolding value_of plain_value array_of object_of sort_of
    by_node node.Null q = plainly null q
    by_node node.False q = plainly (bool false) q
    by_node node.True q = plainly (bool true) q
    by_node (node.Natural low high) q = plainly (natural (low + 4294967296 * high)) q
    by_node (node.Negative low high) q = plainly (negative (low + 4294967296 * high)) q
    by_node (node.Float text) q = plainly (float (text_of pool text)) q
    by_node (node.String text) q = plainly (string (text_of pool text)) q
    by_node (node.Array rows) q = absurd (no_container (put_together room _ _ (λ js. refl) q))
    by_node (node.Object rows) q = absurd (no_container (put_together room _ _ (λ js. refl) q))
    by_node node.Unknown q = plainly null q

  module _ (pool names literals : List ℕ) (room : ℕ) (inside : ℕ → M Json) where
    by_literal : (l : Literal) → Comes (parts_of pool names literals room inside l) j → s ≡ bytes_of (string_of (plain_literal pool names l))
    unfolding parts_of plain_literal array_of object_of sort_of
    by_literal literal.Null q = plainly null q
    by_literal literal.False q = plainly (bool false) q
    by_literal literal.True q = plainly (bool true) q
    by_literal (literal.Natural n) q = plainly (natural n) q
    by_literal (literal.Negative m) q = plainly (negative m) q
    by_literal (literal.Float text) q = plainly (float (text_of pool text)) q
    by_literal (literal.String text) q = plainly (string (text_of pool text)) q
    by_literal (literal.List rows) q = absurd (no_container (put_together room _ _ (λ js. refl) q))
    by_literal (literal.Object rows) q = absurd (no_container (put_together room _ _ (λ js. refl) q))
    by_literal (literal.Enum name) q = plainly (string (name_text pool names name)) q
    by_literal (literal.Variable name) q = absurd (comes_halt variable_in_literal q)
    by_literal literal.Unknown q = plainly null q

  node_spelled : (pool nodes : List ℕ) (room row : ℕ) → Comes (node_value pool nodes room row) j
      → s ≡ bytes_of (string_of (plain_value pool (node_at nodes row)))
  node_spelled pool nodes room row q =
      by_node pool nodes room (insides (node_value pool nodes) room) (node_at nodes row) (rw (node_is pool nodes room row) at q)

  literal_spelled : (pool names literals : List ℕ) (room row : ℕ) → Comes (part_by_part pool names literals room row) j
      → s ≡ bytes_of (string_of (plain_literal pool names (literal_at literals row)))
  literal_spelled pool names literals room row q =
      by_literal pool names literals room (insides (part_by_part pool names literals) room) (literal_at literals row)
      (rw (literal_is pool names literals room row) at q)

  coerced_spelled : (pool names refs types fields nodes literals variables : List ℕ) (ty row : ℕ)
      → Became pool names refs types fields nodes literals variables ty row j
      → s ≡ bytes_of (string_of (plain_literal pool names (literal_at literals row)))
  unfolding string_of
  coerced_spelled pool names refs types fields nodes literals variables ty row (as_null h n) =
      let i = rw (← n) at e in absurd (let z : ◌≡◌ {A = ℕ} 0 1 = cc in omega arith)
  coerced_spelled pool names refs types fields nodes literals variables ty row (as_container t h k c) = absurd (no_container c)
  coerced_spelled pool names refs types fields nodes literals variables ty row (as_parts t h k q) =
      literal_spelled pool names literals most_open row q

module _ (pool names nodes literals : List ℕ) {l : Leaf} {r : List ℕ} where
  pub spells_node : {row : ℕ} → l ≡ leaf.Node row → r ≡ bytes_of (string_of (plain_value pool (node_at nodes row)))
      → SpellsLeaf pool names nodes literals l r
  spells_node {row} h b =
      rw (h, b) (record { spells = λ refs types fields variables j s q e. node_spelled j s e pool nodes _ row q })

  pub spells_name : {name : ℕ} → l ≡ leaf.Name name → r ≡ name_text pool names name → SpellsLeaf pool names nodes literals l r
  unfolding string_of
  spells_name {name} h b =
      rw (h, b)
      (record { spells = λ refs types fields variables j s q e. let i = rw q at e in cc })

  spells_literal : {ty row : ℕ} → l ≡ leaf.Literal ty row → r ≡ bytes_of (string_of (plain_literal pool names (literal_at literals row)))
      → SpellsLeaf pool names nodes literals l r
  spells_literal {ty} {row} h b =
      rw (h, b)
      (record {
        spells = λ refs types fields variables j s q e.
            coerced_spelled j s e pool names refs types fields nodes literals variables ty row
            (became pool names refs types fields nodes literals variables ty row j q);
      })

  spells_default : {row : ℕ} → l ≡ leaf.Default row → r ≡ bytes_of (string_of (plain_literal pool names (literal_at literals row)))
      → SpellsLeaf pool names nodes literals l r
  spells_default {row} h b =
      rw (h, b) (record { spells = λ refs types fields variables j s q e. literal_spelled j s e pool names literals most_open row q })

  -- a literal's string is the same at any type
  pub spells_row : {row : ℕ} → ((ty : ℕ) × (l ≡ leaf.Literal ty row)) ⊎ (l ≡ leaf.Default row)
      → r ≡ bytes_of (string_of (plain_literal pool names (literal_at literals row))) → SpellsLeaf pool names nodes literals l r
  spells_row (inl (ty, h)) b = spells_literal h b
  spells_row (inr h) b = spells_default h b

pub ruleset spelling = (spells_node, spells_name, spells_row)
