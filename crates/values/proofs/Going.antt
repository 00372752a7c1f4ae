-- The loop over the parts of a container. Each part that is written is one value more of those that the definition goes through, and its text comes
-- behind theirs; one that stops ends both. Whatever the parts are: `inside` gives their values and `key` their keys. Assumes nothing.
use mathlib.Core.Path.{◌≡◌, sym, ◌∙◌}
use mathlib.Core.Bool.{Bool}
use mathlib.Core.List.{List, [], ◌∷◌, ◌++◌, append_assoc, append-nil}
use Prim.Native.Nat.{ℕ, suc, ◌+◌, ◌-◌, ◌≤◌, ◌<◌}
use native.Mathlib.Nat.{add-zero, sub-zero}
use native.Mathlib.Omega.{arith}
use lib.ListN.{length}
use Rattle.writing.specs.Wrote.{Writes, Closes, bracketed}
use Rattle.writing.proofs.WritesLaws.{stay, «then», same}
use Rattle.graphql.specs.Run.{M, Choices, stop, done, pure, in_order}
use Rattle.graphql.specs.Json.{Json, print}
use Rattle.graphql.specs.Lookup.{rows_from}
use Rattle.values.specs.Put.{label, left, right, container_of}
use Rattle.values.proofs.Closing.{closes_exactly}
use Rattle.values.proofs.Parts.{onto, onto_none, onto_more, onto_stop, parts_text, made, parts_none, parts_more, print_made}
use Rattle.values.proofs.Parts.{container_made, container_stop}

module _ (key : ℕ → List ℕ) (inside : ℕ → M Json) (keyed : Bool) (first count : ℕ) (text₀ : List ℕ) (at : ℕ) where
  abbrev rows : List ℕ
  rows = rows_from first count

  -- the parts from the i-th on
  abbrev rest : ℕ → List ℕ
  rest i = rows_from (first + i) (count - i)

  abbrev text_of_parts : List ℕ → List Json → List ℕ
  text_of_parts = parts_text key keyed

  -- Before the i-th part: `values` were there, and the parts that are left give the others; `out` is their text, and the others' comes behind it
  pub record Going (text : List ℕ) (next i : ℕ) : Type 0 where
    pub below : i ≤ count
    pub values : List Json
    pub out : List ℕ
    pub others : (c : Choices) → in_order inside rows c ≡ onto values (in_order inside (rest i) c)
    pub behind : (js : List Json) → text_of_parts rows (values ++ js) ≡ out ++ text_of_parts (rest i) js
    pub written : Writes text₀ text at next out

  pub going_begin : Going text₀ at 0
  going_begin = record {
    below = omega arith;
    values = [];
    out = [];
    others = λ c. rw (add-zero, sub-zero) (onto_none (in_order inside rows c));
    behind = λ js. rw (add-zero, sub-zero);
    written = stay text₀ at;
  }

  next_part : {i : ℕ} → i < count → rest i ≡ (first + i) ∷ rest (i + 1)
  unfolding rows_from
  next_part {i} l =
      let s : count - i ≡ suc (count - (i + 1)) = omega arith in
      let t : first + (i + 1) ≡ suc (first + i) = omega arith in
      rw (s, t)

  -- the i-th part has a value, or it stops
  module _ {text text1 : List ℕ} {next value i : ℕ} (g : Going text next i) (l : i < count)
      (w : Writes text text1 next value (label keyed (key (first + i)))) where
    pub part_written : {text2 : List ℕ} {end : ℕ} (j : Json) → ((c : Choices) → inside (first + i) c ≡ done j [] c)
        → Writes text1 text2 value end (print j) → Going text2 end (i + 1)
    part_written j e v = record {
      below = omega arith;
      values = g.values ++ (j ∷ []);
      out = g.out ++ (label keyed (key (first + i)) ++ print j);
      others = λ c. rw (next_part l) at (g.others c) ∙ onto_more inside (first + i) (rest (i + 1)) g.values c j (e c);
      behind = λ js. simp append_assoc (rw (next_part l, parts_more) at (g.behind (j ∷ js)));
      written = «then» g.written («then» w v);
    }

    pub part_stops : {s : ℕ} (room : ℕ) → ((c : Choices) → inside (first + i) c ≡ stop s [])
        → (c : Choices) → container_of key (suc room) inside keyed rows c ≡ stop s []
    part_stops room e c =
        container_stop key room inside keyed rows c
        (rw (next_part l) at (g.others c) ∙ onto_stop inside (first + i) (rest (i + 1)) g.values c (e c))

    pub part_long : length text1 ≡ length text₀
    part_long = w.wrote.long ∙ g.written.wrote.long

  -- all parts are there
  module _ {text : List ℕ} {next i : ℕ} (g : Going text next i) (l : count ≤ i) where
    all_done : (c : Choices) → in_order inside rows c ≡ done g.values [] c
    unfolding rows_from in_order onto pure
    all_done c =
        let z : count - i ≡ 0 = omega arith in
        rw (append-nil g.values) at (rw z at (g.others c))

    all_behind : text_of_parts rows g.values ≡ g.out
    unfolding rows_from
    all_behind =
        let z : count - i ≡ 0 = omega arith in
        rw (append-nil g.values, parts_none, append-nil g.out) at (rw z at (g.behind []))

    printed : print (made key keyed rows g.values) ≡ bracketed (left keyed) (right keyed) g.out
    printed = rw (print_made key keyed rows g.values, all_behind)

    abbrev pub whole : Json
    whole = made key keyed rows g.values

    pub whole_done : (room : ℕ) (c : Choices) → container_of key (suc room) inside keyed rows c ≡ done whole [] c
    whole_done room c = container_made key room inside keyed rows c g.values (all_done c)

    pub whole_written : {text2 : List ℕ} {end : ℕ} → Closes (left keyed) (right keyed) text at next text2 end
        → Writes text₀ text2 at end (print whole)
    whole_written q = same (sym printed) (closes_exactly g.written q)
