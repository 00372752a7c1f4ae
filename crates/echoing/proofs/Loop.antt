-- The loop over the parts of a container. If the parts come to values, those passed had room and their text stands there; a part that has none ends
-- it. Whatever the parts are: `run` gives their values, `size` how many containers they open and `out` their text. Assumes nothing.
use mathlib.Core.Path.{◌≡◌, refl, sym, ◌∙◌}
use mathlib.Core.Bool.{Bool, true, false, cond}
use mathlib.Core.List.{List, [], ◌∷◌, ◌++◌, append_assoc, append-nil}
use Rattle.std.specs.Prelude.{Some, None}
use Prim.Native.Nat.{ℕ, suc, ◌+◌, ◌-◌, ◌≤◌, ◌<◌, max}
use native.Mathlib.Nat.{add-zero, sub-zero}
use native.Mathlib.Decide.{dec_le}
use native.Mathlib.Omega.{arith}
use lib.Dec.{eqb}
use lib.ListN.{length}
use Rattle.writing.specs.Wrote.{Writes, Closes, written, closed, bracketed}
use Rattle.writing.proofs.WritesLaws.{length_written, stay, «then», same}
use Rattle.graphql.specs.Run.{M, pure, in_order, ◌>>=◌}
use Rattle.graphql.specs.Json.{Json, print, containers}
use Rattle.graphql.specs.Lookup.{rows_from}
use Rattle.values.proofs.Closing.{closes_exactly}
use Rattle.echoing.specs.Echo.{Put, Comes, Shown, Shows}
use Rattle.echoing.proofs.Comes.{Made, made, More, comes_none, comes_more, comes_long}

unfoldable pub largest : {A : Type 0} → (size : A → ℕ) → List A → ℕ
largest size [] = 0
largest size (v ∷ vs) = max (size v) (largest size vs)

unfoldable pub outs : {A : Type 0} → (out : ℕ → A → List ℕ) → List ℕ → List A → List ℕ
outs out [] vs = []
outs out (row ∷ rows) [] = []
outs out (row ∷ rows) (v ∷ vs) = out row v ++ outs out rows vs

-- what stands before a value comes before its text
pub behind : {K A : Type 0} {size : A → ℕ} {out : A → List ℕ} {room : ℕ} {m : K → M A} {text text1 text2 label : List ℕ} {at next : ℕ} {r : Put}
    → Writes text text1 at next label → Shows size out room m text1 next r text2 → Shows size (λ v. label ++ out v) room m text at r text2
behind w q = record {
  long = q.long ∙ w.wrote.long;
  shown = λ k v e. record {
    fits = λ l. let o = (q.shown k v e).fits l in record { end = o.end; is = o.is; writes = «then» w o.writes };
    full = λ l. (q.shown k v e).full l;
  };
}

module _ {K A : Type 0} (size : A → ℕ) (out : ℕ → A → List ℕ) (room : ℕ) (run : ℕ → K → M A) (first count : ℕ) (text₀ : List ℕ) (at : ℕ) where
  abbrev rows : List ℕ
  rows = rows_from first count

  -- the parts from the i-th on
  abbrev rest : ℕ → List ℕ
  rest i = rows_from (first + i) (count - i)

  abbrev Parts : K → List ℕ → List A → Type 0
  Parts k part vs = Comes (in_order (λ row. run row k) part) vs

  -- before the i-th part, if all come to values
  pub record Gone (k : K) (vs : List A) (text : List ℕ) (next i : ℕ) : Type 0 where
    pub left : List A
    pub passed : List ℕ
    pub most : ℕ
    pub others : Parts k (rest i) left
    pub sized : largest size vs ≡ max most (largest size left)
    pub fit : most ≤ room
    pub said : outs out rows vs ≡ passed ++ outs out (rest i) left
    pub written : Writes text₀ text at next passed

  pub record Going (text : List ℕ) (next i : ℕ) : Type 0 where
    pub below : i ≤ count
    pub words : first + count ≤ 4294967296
    pub long : length text ≡ length text₀
    pub gone : (k : K) (vs : List A) → Parts k rows vs → Gone k vs text next i

  pub going_begin : first + count ≤ 4294967296 → Going text₀ at 0
  going_begin w = record {
    below = omega arith;
    words = w;
    long = refl;
    gone = λ k vs q. record {
      left = vs;
      passed = [];
      most = 0;
      others = rw (add-zero, sub-zero) q;
      sized = omega arith;
      fit = omega arith;
      said = rw (add-zero, sub-zero);
      written = stay text₀ at;
    };
  }

  next_part : {i : ℕ} → i < count → rest i ≡ (first + i) ∷ rest (i + 1)
  unfolding rows_from
  next_part {i} l =
      let s : count - i ≡ suc (count - (i + 1)) = omega arith in
      let t : first + (i + 1) ≡ suc (first + i) = omega arith in
      rw (s, t)

  module _ {text text2 : List ℕ} {next i : ℕ} {r : Put} (g : Going text next i) (l : i < count)
      (w : Shows size (out (first + i)) room (run (first + i)) text next r text2) where
    part : (k : K) (vs : List A) → Parts k rows vs → (o : Gone k vs text next i) → More (λ row. run row k) (first + i) (rest (i + 1)) o.left
    part k vs q o = comes_more (λ row. run row k) (first + i) (rest (i + 1)) (rw (next_part l) at o.others)

    pub going_again : {end : ℕ} → r ≡ Some end → Going text2 end (i + 1)
    unfolding largest outs
    going_again {end} h = record {
      below = omega arith;
      words = g.words;
      long = w.long ∙ g.long;
      gone = λ k vs q.
          let o = g.gone k vs q in
          let m = part k vs q o in
          go k vs o m (w.shown k m.head m.here) (dec_le (size m.head) room);
    }
      where
        go : (k : K) (vs : List A) (o : Gone k vs text next i) (m : More (λ row. run row k) (first + i) (rest (i + 1)) o.left)
            → Shown room (size m.head) (out (first + i) m.head) text next r text2 → Dec (size m.head ≤ room) → Gone k vs text2 end (i + 1)
        go k vs o m s (yes p) =
            let f = s.fits p in
            let e = f.is in
            let same_end : f.end ≡ end = cc in
            let z : largest size vs ≡ max o.most (largest size (m.head ∷ m.tail)) = rw m.are at o.sized in
            let t : outs out rows vs ≡ o.passed ++ outs out ((first + i) ∷ rest (i + 1)) (m.head ∷ m.tail) = rw (next_part l, m.are) at
            o.said in
            record {
              left = m.tail;
              passed = o.passed ++ out (first + i) m.head;
              most = max o.most (size m.head);
              others = m.there;
              sized = omega arith;
              fit = omega (arith, o.fit);
              said = t ∙ sym (append_assoc o.passed (out (first + i) m.head) (outs out (rest (i + 1)) m.tail));
              written = «then» o.written (rw same_end at f.writes);
            }
        go k vs o m s (no p) = let e = s.full (omega arith) in absurd (let z : ◌≡◌ {A = ℕ} 0 1 = cc in omega arith)

    pub part_long : length text2 ≡ length text₀
    part_long = w.long ∙ g.long

    -- a part that was too far opens more containers than there is room for
    pub part_stops : r ≡ None → (k : K) (vs : List A) → Parts k rows vs → room < largest size vs
    unfolding largest
    part_stops h k vs q =
        let o = g.gone k vs q in
        let m = part k vs q o in
        go o m (w.shown k m.head m.here) (dec_le (size m.head) room)
      where
        go : (o : Gone k vs text next i) (m : More (λ row. run row k) (first + i) (rest (i + 1)) o.left)
            → Shown room (size m.head) (out (first + i) m.head) text next r text2 → Dec (size m.head ≤ room) → room < largest size vs
        go o m s (yes p) = let e = (s.fits p).is in absurd (let z : ◌≡◌ {A = ℕ} 0 1 = cc in omega arith)
        go o m s (no p) =
            let z : largest size vs ≡ max o.most (largest size (m.head ∷ m.tail)) = rw m.are at o.sized in
            omega arith

  -- all parts are there
  pub record Ended (k : K) (vs : List A) (text : List ℕ) (next : ℕ) : Type 0 where
    pub fit : largest size vs ≤ room
    pub written : Writes text₀ text at next (outs out rows vs)

  pub all_there : {text : List ℕ} {next i : ℕ} → Going text next i → count ≤ i → (k : K) (vs : List A) → Parts k rows vs → Ended k vs text next
  unfolding rows_from outs largest
  all_there {text} {next} {i} g l k vs q =
      let o = g.gone k vs q in
      let z : count - i ≡ 0 = omega arith in
      let e : o.left ≡ [] = comes_none (λ row. run row k) (rw z at o.others) in
      let n : largest size vs ≡ max o.most 0 = rw e at o.sized in
      let t : outs out rows vs ≡ o.passed = rw (append-nil o.passed) at (rw z at o.said) in
      record { fit = omega (arith, o.fit); written = same (sym t) o.written }

-- ---- the container that the parts make

closed_long : (b : Bool) (t : List ℕ) (s a : ℕ) (x y w : List ℕ) → length (cond b (written t a x) (written (written t s y) a w)) ≡ length t
closed_long true t s a x y w = length_written t a x
closed_long false t s a x y w = length_written (written t s y) a w ∙ length_written t s y

closes_long : {l r : ℕ} {t t' : List ℕ} {s a e : ℕ} → Closes l r t s a t' e → length t' ≡ length t
unfolding closed
closes_long {l} {r} {t} {s = s} {a = a} q = rw q.exact (closed_long (eqb a s) t s a (l ∷ r ∷ []) (l ∷ []) (r ∷ []))

module _ {K A : Type 0} (size : A → ℕ) (out : ℕ → A → List ℕ) (room : ℕ) (run : ℕ → K → M A) (first count : ℕ) (text₀ : List ℕ) (at : ℕ)
    (z : room ≡ 0 → ⊥) (left right : ℕ) (make : List A → Json)
    (deep : (vs : List A) → length vs ≡ length (rows_from first count) → containers (make vs) ≡ suc (largest size vs))
    (text_of : (vs : List A) → length vs ≡ length (rows_from first count) → print (make vs) ≡ bracketed left right (outs out
    (rows_from first count) vs))
    (m : K → M Json) (opens : (k : K) → m k ≡ (in_order (λ row. run row k) (rows_from first count) >>= λ vs. pure (make vs))) where
  of_parts : (k : K) (j : Json) → Comes (m k) j → Made (in_order (λ row. run row k) (rows_from first count)) make j
  of_parts k j q = made (in_order (λ row. run row k) (rows_from first count)) make j (rw (opens k) at q)

  module _ {text : List ℕ} {next i : ℕ} (g : Going size out (room - 1) run first count text₀ at text next i) where
    pub container_stopped : {text2 : List ℕ} {r : Put} → i < count → Shows size (out (first + i)) (room - 1) (run (first + i)) text next r text2
        → r ≡ None → Shows containers print room m text₀ at None text2
    container_stopped l w h = record {
      long = part_long size out (room - 1) run first count text₀ at g l w;
      shown = λ k j q.
          let b = of_parts k j q in
          let n = part_stops size out (room - 1) run first count text₀ at g l w h k b.value b.first in
          let d = deep b.value (comes_long (λ row. run row k) (rows_from first count) b.first) in
          rw (← b.is) (record { fits = λ f. absurd (omega arith); full = λ f. refl });
    }

    pub container_ended : {text2 : List ℕ} {end : ℕ} → count ≤ i → Closes left right text at next text2 end
        → Shows containers print room m text₀ at (Some end) text2
    container_ended {text2} {end} l c = record {
      long = closes_long c ∙ g.long;
      shown = λ k j q.
          let b = of_parts k j q in
          let long = comes_long (λ row. run row k) (rows_from first count) b.first in
          let e = all_there size out (room - 1) run first count text₀ at g l k b.value b.first in
          let d = deep b.value long in
          rw (← b.is) (record {
            fits = λ f. record { end = end; is = refl; writes = same (sym (text_of b.value long)) (closes_exactly e.written c) };
            full = λ f. absurd (omega (arith, e.fit, z));
          });
    }
