-- How much room a value takes, by one induction for nodes and literals: the parts of a container are there in one room less where they are there in
-- another. Assumes nothing.
use mathlib.Core.Path.{◌≡◌, refl, ◌∙◌}
use mathlib.Core.Bool.{true, false}
use mathlib.Core.List.{List, [], ◌∷◌, map}
use Rattle.std.specs.Prelude.{Some}
use Prim.Native.Nat.{ℕ, zero, suc, ◌+◌, ◌*◌, ◌≤◌, ◌<◌, max}
use native.Mathlib.Decide.{dec_le}
use native.Mathlib.Omega.{arith}
use borrow.Author.Tests.{le-leb, lt-leb}
use lib.Dec.{leb}
use lib.ListN.{length}
use Rattle.rows.specs.Strings.{text_of}
use Rattle.rows.specs.Names.{name_text}
use Rattle.rows.specs.Json.{node_at, node_key, literal_at, literal_key, variable_at}
use Rattle.rows.specs.declared.json.Node.{Node}
use Rattle.rows.specs.declared.json.Node.TheVariants as node
use Rattle.rows.specs.declared.json.Literal.{Literal}
use Rattle.rows.specs.declared.json.Literal.TheVariants as literal
use Rattle.codes.specs.Outcome.{too_far, most_open}
use Rattle.graphql.specs.Run.{Log, Choices, M, Res, stop, failed, done, pure, halt, when, after, onward, in_order, ◌>>=◌}
use Rattle.graphql.specs.Json.{Json, containers, containers_of_items, containers_of_members, items, members}
use Rattle.graphql.specs.Json as json
use Rattle.graphql.specs.Lookup.{rows_in}
use Rattle.graphql.specs.Values.{opened, array_of, object_of, value_of, node_value, variable_value, parts_of, part_by_part}
use Rattle.values.specs.Room.{Within, NodeWithin, VariableEchoed, LiteralWithin, LiteralFits}
use Rattle.values.proofs.Insides.{insides, node_is, literal_is}

-- ---- a run that is done was done with its first part

record Bound {A B : Type 0} (m : M A) (k : A → M B) (b : B) (c c' : Choices) : Type 0 where
  value : A
  log : Log
  log' : Log
  between : Choices
  first : m c ≡ done value log between
  second : k value between ≡ done b log' c'

module _ {A B : Type 0} (m : M A) (k : A → M B) (b : B) (log : Log) (c c' : Choices) where
  bound : (m >>= k) c ≡ done b log c' → Bound m k b c c'
  unfolding ◌>>=◌ onward after
  bound e = go (m c) refl e
    where
      next : (a : A) (w : Log) (d : Choices) → m c ≡ done a w d → (y : Res B) → k a d ≡ y → after w y ≡ done b log c' → Bound m k b c c'
      next a w d h (stop s u) i e = absurd (let z : ◌≡◌ {A = ℕ} 0 1 = cc in omega arith)
      next a w d h (failed r u f) i e = absurd (let z : ◌≡◌ {A = ℕ} 0 1 = cc in omega arith)
      next a w d h (done b' u f) i e =
          let s : b' ≡ b = cc in
          let t : f ≡ c' = cc in
          record { value = a; log = w; log' = u; between = d; first = h; second = i ∙ rw (s, t) }

      go : (x : Res A) → m c ≡ x → onward x k ≡ done b log c' → Bound m k b c c'
      go (stop s w) h e = absurd (let z : ◌≡◌ {A = ℕ} 0 1 = cc in omega arith)
      go (failed r w d) h e = absurd (let z : ◌≡◌ {A = ℕ} 0 1 = cc in omega arith)
      go (done a w d) h e = next a w d h (k a d) refl e

-- ---- the parts of a container

-- how many containers the deepest of them opens
unfoldable deepest : List Json → ℕ
deepest [] = 0
deepest (j ∷ js) = max (containers j) (deepest js)

items_deep : (js : List Json) → containers_of_items (items js) ≡ deepest js
unfolding containers_of_items items deepest
items_deep [] = refl
items_deep (j ∷ js) = rw (items_deep js)

members_deep : (key : ℕ → List ℕ) (rows : List ℕ) (js : List Json) → length js ≡ length rows
    → containers_of_members (members (map key rows) (map Some js)) ≡ deepest js
unfolding containers_of_members members deepest
members_deep key [] [] e = refl
members_deep key [] (j ∷ js) e = absurd (omega arith)
members_deep key (row ∷ rows) [] e = absurd (omega arith)
members_deep key (row ∷ rows) (j ∷ js) e = rw (members_deep key rows js (omega arith))

-- a part that has a value here is there in so much room
abbrev Law : (inside inside' : ℕ → M Json) (room : ℕ) → Type 0
Law inside inside' room =
    (row : ℕ) (j : Json) (log : Log) (c c' : Choices) → inside row c ≡ done j log c' → Within room (containers j) j (inside' row)

module _ (inside inside' : ℕ → M Json) (room : ℕ) (law : Law inside inside' room) where
  record Came (rows : List ℕ) (js : List Json) : Type 0 where
    long : length js ≡ length rows
    within : Within room (deepest js) js (in_order inside' rows)

  came_more : (row : ℕ) (rows : List ℕ) (j : Json) (js : List Json) → Within room (containers j) j (inside' row) → Came rows js
      → Came (row ∷ rows) (j ∷ js)
  unfolding deepest in_order ◌>>=◌ onward after pure
  came_more row rows j js w k = record {
    long = rw k.long;
    within = record {
      fits = λ l c. rw (w.fits (omega arith) c, k.within.fits (omega arith) c);
      full = λ l c. go l c (dec_le (containers j) room);
    };
  }
    where
      go : room < max (containers j) (deepest js) → (c : Choices) → Dec (containers j ≤ room) → in_order inside' (row ∷ rows) c ≡ stop too_far []
      go l c (yes p) = rw (w.fits p c, k.within.full (omega arith) c)
      go l c (no p) = rw (w.full (omega arith) c)

  came : (rows : List ℕ) (js : List Json) (log : Log) (c c' : Choices) → in_order inside rows c ≡ done js log c' → Came rows js
  unfolding deepest in_order pure
  came [] js log c c' e =
      let s : ◌≡◌ {A = List Json} [] js = cc in
      rw (← s) (record { long = refl; within = record { fits = λ l d. refl; full = λ l d. absurd (omega arith) } })
  came (row ∷ rows) js log c c' e =
      let p = bound (inside row) (λ v. in_order inside rows >>= λ vs. pure (v ∷ vs)) js log c c' e in
      let q = bound (in_order inside rows) (λ vs. pure (p.value ∷ vs)) js p.log' p.between c' p.second in
      let h = q.second in
      let s : p.value ∷ q.value ≡ js = cc in
      rw (← s)
      (came_more row rows p.value q.value (law row p.value p.log c p.between p.first)
      (came rows q.value q.log p.between q.between q.first))

-- ---- a container, and what is none

module _ (j : Json) (log : Log) (c c' : Choices) where
  plainly : (room : ℕ) (v : Json) → containers v ≡ 0 → pure v c ≡ done j log c' → Within room (containers j) j (pure v)
  unfolding pure
  plainly room v z e = let s : v ≡ j = cc in rw (← s) (record { fits = λ l d. refl; full = λ l d. absurd (omega arith) })

  module _ (rows : List ℕ) (make : List Json → Json) (deep : (js : List Json) → length js ≡ length rows → containers (make js) ≡ suc (deepest js))
      (opens : (js : List Json) → 1 ≤ containers (make js)) (inside inside' : ℕ → M Json) where
    together : (big room : ℕ) → ((n : ℕ) → room ≡ suc n → Law inside inside' n)
        → opened big (in_order inside rows >>= λ js. pure (make js)) c ≡ done j log c'
        → Within room (containers j) j (opened room (in_order inside' rows >>= λ js. pure (make js)))
    unfolding opened halt ◌>>=◌ onward after pure
    together zero room law e = absurd (let z : ◌≡◌ {A = ℕ} 0 1 = cc in omega arith)
    together (suc big) zero law e =
        let p = bound (in_order inside rows) (λ js. pure (make js)) j log c c' e in
        let h = p.second in
        let s : make p.value ≡ j = cc in
        rw (← s) (record { fits = λ l d. absurd (omega (arith, opens p.value)); full = λ l d. refl })
    together (suc big) (suc room) law e =
        let p = bound (in_order inside rows) (λ js. pure (make js)) j log c c' e in
        let h = p.second in
        let s : make p.value ≡ j = cc in
        let k = came inside inside' room (law room refl) rows p.value p.log c p.between p.first in
        let n = deep p.value k.long in
        rw (← s)
        (record {
          fits = λ l d. rw (k.within.fits (omega arith) d);
          full = λ l d. rw (k.within.full (omega arith) d);
        })

  module _ (inside inside' : ℕ → M Json) (big room : ℕ) (law : (n : ℕ) → room ≡ suc n → Law inside inside' n) where
    array_within : (rows : List ℕ) → array_of big inside rows c ≡ done j log c' → Within room (containers j) j (array_of room inside' rows)
    unfolding array_of containers
    array_within rows e =
        together rows (λ js. json.array (items js)) (λ js l. rw (items_deep js)) (λ js. omega arith) inside inside' big room law e

    object_within : (key : ℕ → List ℕ) (rows : List ℕ) → object_of big inside key rows c ≡ done j log c'
        → Within room (containers j) j (object_of room inside' key rows)
    unfolding object_of containers
    object_within key rows e =
        together rows (λ js. json.object (members (map key rows) (map Some js))) (λ js l. rw (members_deep key rows js l)) (λ js. omega arith)
        inside inside' big room law e

    node_within_lem : (pool nodes : List ℕ) (n : Node) → value_of pool nodes big inside n c ≡ done j log c'
        → Within room (containers j) j (value_of pool nodes room inside' n)
    unfolding value_of containers
    node_within_lem pool nodes node.Null e = plainly room json.null refl e
    node_within_lem pool nodes node.False e = plainly room (json.bool false) refl e
    node_within_lem pool nodes node.True e = plainly room (json.bool true) refl e
    node_within_lem pool nodes (node.Natural low high) e = plainly room (json.natural (low + 4294967296 * high)) refl e
    node_within_lem pool nodes (node.Negative low high) e = plainly room (json.negative (low + 4294967296 * high)) refl e
    node_within_lem pool nodes (node.Float text) e = plainly room (json.float (text_of pool text)) refl e
    node_within_lem pool nodes (node.String text) e = plainly room (json.string (text_of pool text)) refl e
    node_within_lem pool nodes (node.Array rows) e = array_within (rows_in rows) e
    node_within_lem pool nodes (node.Object rows) e = object_within (λ row. text_of pool (node_key nodes row)) (rows_in rows) e
    node_within_lem pool nodes node.Unknown e = plainly room json.null refl e

    literal_within_lem : (pool names literals : List ℕ) (l : Literal) → parts_of pool names literals big inside l c ≡ done j log c'
        → Within room (containers j) j (parts_of pool names literals room inside' l)
    unfolding parts_of containers halt
    literal_within_lem pool names literals literal.Null e = plainly room json.null refl e
    literal_within_lem pool names literals literal.False e = plainly room (json.bool false) refl e
    literal_within_lem pool names literals literal.True e = plainly room (json.bool true) refl e
    literal_within_lem pool names literals (literal.Natural n) e = plainly room (json.natural n) refl e
    literal_within_lem pool names literals (literal.Negative m) e = plainly room (json.negative m) refl e
    literal_within_lem pool names literals (literal.Float text) e = plainly room (json.float (text_of pool text)) refl e
    literal_within_lem pool names literals (literal.String text) e = plainly room (json.string (text_of pool text)) refl e
    literal_within_lem pool names literals (literal.List rows) e = array_within (rows_in rows) e
    literal_within_lem pool names literals (literal.Object rows) e =
        object_within (λ row. name_text pool names (literal_key literals row)) (rows_in rows) e
    literal_within_lem pool names literals (literal.Enum name) e = plainly room (json.string (name_text pool names name)) refl e
    literal_within_lem pool names literals (literal.Variable name) e = absurd (let z : ◌≡◌ {A = ℕ} 0 1 = cc in omega arith)
    literal_within_lem pool names literals literal.Unknown e = plainly room json.null refl e

-- ---- one in another

-- `value` is made by `by` of the values of its parts
module _ (value : ℕ → ℕ → M Json) (by : ℕ → (ℕ → M Json) → ℕ → M Json)
    (is : (room row : ℕ) → value room row ≡ by room (insides value room) row)
    (step : (j : Json) (log : Log) (c c' : Choices) (inside inside' : ℕ → M Json) (big room : ℕ) → ((n : ℕ) → room ≡ suc n → Law inside inside' n)
    → (row : ℕ) → by big inside row c ≡ done j log c' → Within room (containers j) j (by room inside' row)) where
  within_any : (big room row : ℕ) (j : Json) (log : Log) (c c' : Choices) → value big row c ≡ done j log c'
      → Within room (containers j) j (value room row)
  unfolding insides halt
  within_any zero room row j log c c' e =
      rw (is room row)
      (step j log c c' (insides value zero) (insides value room) zero room
      (λ n z part k u d d' h. absurd (let q : ◌≡◌ {A = ℕ} 0 1 = cc in omega arith)) row (rw (is zero row) at e))
  within_any (suc big) zero row j log c c' e =
      rw (is zero row)
      (step j log c c' (insides value (suc big)) (insides value zero) (suc big) zero
      (λ n z. absurd (omega arith)) row (rw (is (suc big) row) at e))
  within_any (suc big) (suc room) row j log c c' e =
      rw (is (suc room) row)
      (step j log c c' (insides value (suc big)) (insides value (suc room)) (suc big) (suc room)
      (λ n z part k u d d' h. let s : room ≡ n = omega arith in rw (← s) (within_any big room part k u d d' h)) row (rw (is (suc big) row) at e))

pub node_within : NodeWithin
node_within pool nodes =
    within_any (node_value pool nodes) (λ room inside row. value_of pool nodes room inside (node_at nodes row)) (node_is pool nodes)
    (λ j log c c' inside inside' big room law row e. node_within_lem j log c c' inside inside' big room law pool nodes (node_at nodes row) e)

pub literal_within : LiteralWithin
literal_within pool names literals =
    within_any (part_by_part pool names literals) (λ room inside row. parts_of pool names literals room inside (literal_at literals row))
    (literal_is pool names literals)
    (λ j log c c' inside inside' big room law row e.
    literal_within_lem j log c c' inside inside' big room law pool names literals (literal_at literals row) e)

-- ---- what follows

pub literal_fits : LiteralFits
literal_fits pool names literals room row j log c c' e = go (dec_le (containers j) room)
  where
    go : Dec (containers j ≤ room) → containers j ≤ room
    go (yes p) = p
    go (no p) =
        let w = (literal_within pool names literals room room row j log c c' e).full (omega arith) c in
        absurd (let z : ◌≡◌ {A = ℕ} 0 1 = cc in omega arith)

pub variable_echoed : VariableEchoed
unfolding variable_value when pure halt
variable_echoed pool nodes variables v j log c c' e d = go (dec_le (containers j) most_open)
  where
    w : Within most_open (containers j) j (node_value pool nodes most_open (variable_at variables v).node)
    w = node_within pool nodes _ most_open (variable_at variables v).node j log c c' e

    go : Dec (containers j ≤ most_open)
        → node_value pool nodes most_open (variable_at variables v).node d ≡ when (leb (containers j) most_open) (pure j) (halt too_far) d
    go (yes p) = rw (le-leb (containers j) most_open p) (w.fits p d)
    go (no p) = rw (lt-leb (containers j) most_open (omega arith)) (w.full (omega arith) d)
