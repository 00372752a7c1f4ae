-- JSON values as trees: leaves, arguments and the values of variables. Their text ("Text is compact JSON", RFC 8259), how many containers
-- are open in them, and what the rules on leaves tell apart. Read it after Run.
use Rattle.std.specs.Prelude.{List, [], ◌∷◌, ◌++◌, Bool, true, false, cond, ℕ, suc, max, ltb, leb}
use Rattle.std.proofs.Math.Bool.{decide}
use Rattle.std.specs.Prelude.{Option, Some, None}
use Rattle.tokens.specs.Escape.{quoted}
use Rattle.tokens.specs.Decimal.{decimal}
use Rattle.tokens.specs.Literal.{null_name, true_name, false_name}
use Rattle.writing.specs.Wrote.{bracketed}

-- Strings, keys and the spelling of a float are bytes.
mutual
  pub data Json : Type 0 where
    null : Json
    bool : Bool → Json
    natural : ℕ → Json
    negative : ℕ → Json
    float : List ℕ → Json
    string : List ℕ → Json
    array : Items → Json
    object : Members → Json

  pub data Items : Type 0 where
    no_item : Items
    item : Json → Items → Items

  pub data Members : Type 0 where
    no_member : Members
    member : List ℕ → Json → Members → Members

unfoldable pub items : List Json → Items
items [] = no_item
items (j ∷ js) = item j (items js)

-- the values that are not left out, each under its key
unfoldable pub members : List (List ℕ) → List (Option Json) → Members
members [] vs = no_member
members (k ∷ ks) [] = no_member
members (k ∷ ks) (None ∷ vs) = members ks vs
members (k ∷ ks) (Some j ∷ vs) = member k j (members ks vs)

-- RFC 8259, sections 3 to 7. The bytes: comma 44, minus 45, colon 58, [ 91, ] 93, { 123, } 125. Each part of a container has a comma before
-- it, and `bracketed` puts the left bracket in the first one's place.
unfoldable mutual
  pub print : Json → List ℕ
  print null = null_name
  print (bool true) = true_name
  print (bool false) = false_name
  print (natural n) = decimal n
  print (negative n) = 45 ∷ decimal n
  print (float spelling) = spelling
  print (string s) = quoted s
  print (array is) = bracketed 91 93 (print_items is)
  print (object ms) = bracketed 123 125 (print_members ms)

  pub print_items : Items → List ℕ
  print_items no_item = []
  print_items (item j is) = 44 ∷ (print j ++ print_items is)

  pub print_members : Members → List ℕ
  print_members no_member = []
  print_members (member k j ms) = 44 ∷ (quoted k ++ (58 ∷ (print j ++ print_members ms)))

-- how many containers are open at once
unfoldable mutual
  pub containers : Json → ℕ
  containers null = 0
  containers (bool b) = 0
  containers (natural n) = 0
  containers (negative n) = 0
  containers (float s) = 0
  containers (string s) = 0
  containers (array is) = suc (containers_of_items is)
  containers (object ms) = suc (containers_of_members ms)

  pub containers_of_items : Items → ℕ
  containers_of_items no_item = 0
  containers_of_items (item j is) = max (containers j) (containers_of_items is)

  pub containers_of_members : Members → ℕ
  containers_of_members no_member = 0
  containers_of_members (member k j ms) = max (containers j) (containers_of_members ms)

-- The sort of a value: an integer that fits 32 bits is an int, another signed one that fits 64 bits a long, and a larger one a huge.
pub data Sort : Type 0 where
  a_null : Sort
  a_boolean : Sort
  an_int : Sort
  a_long : Sort
  a_huge : Sort
  a_float : Sort
  a_string : Sort
  a_container : Sort
  deriving Discrete as sort-discrete

unfoldable pub sort_of : Json → Sort
sort_of null = a_null
sort_of (bool b) = a_boolean
sort_of (natural n) = cond (ltb n 2147483648) an_int (cond (ltb n 9223372036854775808) a_long a_huge)
sort_of (negative m) = cond (leb m 2147483648) an_int a_long
sort_of (float spelling) = a_float
sort_of (string s) = a_string
sort_of (array is) = a_container
sort_of (object ms) = a_container

unfoldable pub is_a : Sort → Json → Bool
is_a sort j = decide (sort-discrete sort (sort_of j))

unfoldable pub string_of : Json → Option (List ℕ)
string_of null = None
string_of (bool b) = None
string_of (natural n) = None
string_of (negative m) = None
string_of (float spelling) = None
string_of (string s) = Some s
string_of (array is) = None
string_of (object ms) = None
