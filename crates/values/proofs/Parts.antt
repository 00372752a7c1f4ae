-- The parts of a container: their values one after another, and their text with a label before each. Assumes nothing.
use mathlib.Core.Path.{◌≡◌, refl}
use mathlib.Core.Bool.{Bool, true, false}
use mathlib.Core.List.{List, [], ◌∷◌, ◌++◌, map, append_assoc, append-nil}
use Rattle.std.specs.Prelude.{Some}
use Prim.Native.Nat.{ℕ, zero, suc}
use Rattle.tokens.specs.Escape.{quoted}
use Rattle.writing.specs.Wrote.{bracketed}
use Rattle.codes.specs.Outcome.{too_far}
use Rattle.graphql.specs.Run.{M, Res, Choices, stop, failed, done, pure, halt, after, onward, in_order, ◌>>=◌}
use Rattle.graphql.specs.Json.{Json, array, object, items, members, print, print_items, print_members}
use Rattle.graphql.specs.Values.{opened, array_of, object_of}
use Rattle.values.specs.Put.{label, left, right, container_of}

-- ---- values

-- the same, after values that were there before
unfoldable pub onto : List Json → Res (List Json) → Res (List Json)
onto js (stop s w) = stop s w
onto js (failed r w c) = failed r w c
onto js (done vs w c) = done (js ++ vs) w c

pub onto_none : (x : Res (List Json)) → x ≡ onto [] x
unfolding onto
onto_none (stop s w) = refl
onto_none (failed r w c) = refl
onto_none (done vs w c) = refl

module _ (inside : ℕ → M Json) (row : ℕ) (rows : List ℕ) (js : List Json) (c : Choices) where
  -- a value more
  pub onto_more : (j : Json) → inside row c ≡ done j [] c → onto js (in_order inside (row ∷ rows) c) ≡ onto (js ++ (j ∷ [])) (in_order inside rows c)
  unfolding onto in_order ◌>>=◌ onward after pure
  onto_more j e = rw e (go (in_order inside rows c))
    where
      go : (x : Res (List Json)) → onto js (after [] (onward x (λ vs. pure (j ∷ vs)))) ≡ onto (js ++ (j ∷ [])) x
      go (stop s w) = refl
      go (failed r w d) = refl
      go (done vs w d) = rw (append-nil w, append_assoc js (j ∷ []) vs)

  pub onto_stop : {s : ℕ} → inside row c ≡ stop s [] → onto js (in_order inside (row ∷ rows) c) ≡ stop s []
  unfolding onto in_order ◌>>=◌ onward
  onto_stop e = rw e

-- ---- the text of the parts, and the container that they make

module _ (key : ℕ → List ℕ) where
  unfoldable pub parts_text : (keyed : Bool) → List ℕ → List Json → List ℕ
  parts_text false rows js = print_items (items js)
  parts_text true rows js = print_members (members (map key rows) (map Some js))

  unfoldable pub made : (keyed : Bool) → List ℕ → List Json → Json
  made false rows js = array (items js)
  made true rows js = object (members (map key rows) (map Some js))

  pub parts_none : (keyed : Bool) → parts_text keyed [] [] ≡ []
  unfolding parts_text print_items print_members items members
  parts_none false = refl
  parts_none true = refl

  pub parts_more : (keyed : Bool) (row : ℕ) (rows : List ℕ) (j : Json) (js : List Json)
      → parts_text keyed (row ∷ rows) (j ∷ js) ≡ label keyed (key row) ++ (print j ++ parts_text keyed rows js)
  unfolding parts_text label print_items print_members items members
  parts_more false row rows j js = refl
  parts_more true row rows j js = rw (append_assoc (quoted (key row)) (58 ∷ []) (print j ++ print_members (members (map key rows) (map Some js))))

  pub print_made : (keyed : Bool) (rows : List ℕ) (js : List Json)
      → print (made keyed rows js) ≡ bracketed (left keyed) (right keyed) (parts_text keyed rows js)
  unfolding made parts_text print
  print_made false rows js = refl
  print_made true rows js = refl

  -- a container that may be opened is made of its parts
  module _ (room : ℕ) (inside : ℕ → M Json) (keyed : Bool) (rows : List ℕ) (c : Choices) where
    pub container_made : (js : List Json) → in_order inside rows c ≡ done js [] c
        → container_of key (suc room) inside keyed rows c ≡ done (made keyed rows js) [] c
    unfolding container_of array_of object_of opened ◌>>=◌ onward after pure made
    container_made js e = go keyed
      where
        go : (k : Bool) → container_of key (suc room) inside k rows c ≡ done (made k rows js) [] c
        go false = rw e
        go true = rw e

    pub container_stop : {s : ℕ} → in_order inside rows c ≡ stop s [] → container_of key (suc room) inside keyed rows c ≡ stop s []
    unfolding container_of array_of object_of opened ◌>>=◌ onward
    container_stop {s} e = go keyed
      where
        go : (k : Bool) → container_of key (suc room) inside k rows c ≡ stop s []
        go false = rw e
        go true = rw e

  pub container_full : (inside : ℕ → M Json) (keyed : Bool) (rows : List ℕ) (c : Choices)
      → container_of key zero inside keyed rows c ≡ stop too_far []
  unfolding container_of array_of object_of opened halt
  container_full inside false rows c = refl
  container_full inside true rows c = refl
