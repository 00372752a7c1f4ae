-- Nodes by their variants: what is plain and its text, what is a container, and the sort of each. Assumes nothing.
use mathlib.Core.Path.{◌≡◌, refl}
use mathlib.Core.Bool.{Bool, true, false}
use mathlib.Core.List.{List, [], ◌∷◌}
use Rattle.std.specs.Prelude.{Some, None}
use Prim.Native.Nat.{ℕ, ◌+◌, ◌*◌}
use native.Mathlib.Omega.{arith}
use types.Run.{miss}
use borrow.Enum.Refused.{Among, opened, shut}
use denote.Enum.Declared.{tag_of}
use Rattle.rows.specs.Strings.{text_of}
use Rattle.rows.specs.declared.strings.Text.{Text}
use Rattle.rows.specs.declared.layout.Range.{Range}
use Rattle.rows.specs.declared.json.Node.{Node}
use Rattle.rows.specs.declared.json.Node.TheVariants as node
use Rattle.rows.specs.contracts.json.Node.{the_type}
use Rattle.tokens.specs.Literal.{null_name, true_name, false_name}
use Rattle.tokens.specs.Decimal.{decimal}
use Rattle.tokens.specs.Escape.{quoted}
use Rattle.writing.specs.Wrote.{Writes}
use Rattle.graphql.specs.Json.{null, print}
use Rattle.values.specs.Plain.{plain_value}
use Rattle.values.specs.Put.{shape_of}
use Rattle.values.specs.declared.node.Parts.{Parts}

-- ---- what is plain

-- the numbers of the variants whose plain value is null
abbrev nulls : List ℕ
nulls = 0 ∷ 7 ∷ 8 ∷ 9 ∷ []

plain_null : (pool : List ℕ) (n : Node) → Among nulls (tag_of the_type n) → plain_value pool n ≡ null
unfolding plain_value
plain_null pool node.Null o = refl
plain_null pool node.False o = absurd (miss nulls 1 tt (opened o))
plain_null pool node.True o = absurd (miss nulls 2 tt (opened o))
plain_null pool (node.Natural low high) o = absurd (miss nulls 3 tt (opened o))
plain_null pool (node.Negative low high) o = absurd (miss nulls 4 tt (opened o))
plain_null pool (node.Float text) o = absurd (miss nulls 5 tt (opened o))
plain_null pool (node.String text) o = absurd (miss nulls 6 tt (opened o))
plain_null pool (node.Array rows) o = refl
plain_null pool (node.Object rows) o = refl
plain_null pool node.Unknown o = refl

module _ (pool : List ℕ) {text text' : List ℕ} {at end : ℕ} (n : Node) where
  pub puts_false : n ≡ node.False → Writes text text' at end false_name → Writes text text' at end (print (plain_value pool n))
  unfolding print plain_value
  puts_false e w = rw e w

  pub puts_true : n ≡ node.True → Writes text text' at end true_name → Writes text text' at end (print (plain_value pool n))
  unfolding print plain_value
  puts_true e w = rw e w

  module _ {low high i : ℕ} (whole : i ≡ low + 4294967296 * high) where
    pub puts_natural : n ≡ node.Natural low high → Writes text text' at end (decimal i) → Writes text text' at end (print (plain_value pool n))
    unfolding print plain_value
    puts_natural e w = rw (e, ← whole) w

    pub puts_negative : n ≡ node.Negative low high → Writes text text' at end (45 ∷ decimal i) → Writes text text' at end (print (plain_value pool n))
    unfolding print plain_value
    puts_negative e w = rw (e, ← whole) w

  module _ {t : Text} {bytes : List ℕ} (read : bytes ≡ text_of pool t) where
    pub puts_float : n ≡ node.Float t → Writes text text' at end bytes → Writes text text' at end (print (plain_value pool n))
    unfolding print plain_value
    puts_float e w = rw (e, ← read) w

    pub puts_string : n ≡ node.String t → Writes text text' at end (quoted bytes) → Writes text text' at end (print (plain_value pool n))
    unfolding print plain_value
    puts_string e w = rw (e, ← read) w

  pub puts_null : Among nulls (tag_of the_type n) → Writes text text' at end null_name → Writes text text' at end (print (plain_value pool n))
  unfolding print
  puts_null o w = rw (plain_null pool n o) w

pub ruleset plain = (puts_false, puts_true, puts_natural, puts_negative, puts_float, puts_string, puts_null, shut)

-- ---- containers

-- the numbers of the variants that are no containers
abbrev plains : List ℕ
plains = 0 ∷ 1 ∷ 2 ∷ 3 ∷ 4 ∷ 5 ∷ 6 ∷ 9 ∷ []

-- and these have no parts
pub shape_plain : (n : Node) → Among plains (tag_of the_type n) → None ≡ shape_of n
shape_plain node.Null o = refl
shape_plain node.False o = refl
shape_plain node.True o = refl
shape_plain (node.Natural low high) o = refl
shape_plain (node.Negative low high) o = refl
shape_plain (node.Float text) o = refl
shape_plain (node.String text) o = refl
shape_plain (node.Array rows) o = absurd (miss plains 7 tt (opened o))
shape_plain (node.Object rows) o = absurd (miss plains 8 tt (opened o))
shape_plain node.Unknown o = refl

-- a container is an array or an object
unfoldable pub container_node : (keyed : Bool) → Range → Node
container_node false rows = node.Array rows
container_node true rows = node.Object rows

pub shape_container : (n : Node) (parts : Parts) → shape_of n ≡ Some parts → n ≡ container_node parts.keyed parts.rows
unfolding container_node
shape_container node.Null parts e = absurd (let z : ◌≡◌ {A = ℕ} 0 1 = cc in omega arith)
shape_container node.False parts e = absurd (let z : ◌≡◌ {A = ℕ} 0 1 = cc in omega arith)
shape_container node.True parts e = absurd (let z : ◌≡◌ {A = ℕ} 0 1 = cc in omega arith)
shape_container (node.Natural low high) parts e = absurd (let z : ◌≡◌ {A = ℕ} 0 1 = cc in omega arith)
shape_container (node.Negative low high) parts e = absurd (let z : ◌≡◌ {A = ℕ} 0 1 = cc in omega arith)
shape_container (node.Float text) parts e = absurd (let z : ◌≡◌ {A = ℕ} 0 1 = cc in omega arith)
shape_container (node.String text) parts e = absurd (let z : ◌≡◌ {A = ℕ} 0 1 = cc in omega arith)
shape_container (node.Array rows) parts e = let p : ◌≡◌ {A = Parts} (record { keyed = false; rows = rows }) parts = cc in rw (← p)
shape_container (node.Object rows) parts e = let p : ◌≡◌ {A = Parts} (record { keyed = true; rows = rows }) parts = cc in rw (← p)
shape_container node.Unknown parts e = absurd (let z : ◌≡◌ {A = ℕ} 0 1 = cc in omega arith)
