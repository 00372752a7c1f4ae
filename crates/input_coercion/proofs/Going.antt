-- A loop over rows whose runs go in order: what those that are left end with, all end with. Assumes nothing.
use Rattle.std.specs.Prelude.{Ok, Err}
use mathlib.Core.Path.{◌≡◌}
use mathlib.Core.List.{List, ◌∷◌}
use Prim.Native.Nat.{ℕ, suc, ◌+◌, ◌-◌, ◌≤◌, ◌<◌}
use native.Mathlib.Nat.{add-zero, sub-zero}
use native.Mathlib.Omega.{arith}
use Rattle.graphql.specs.Run.{in_order}
use Rattle.graphql.specs.Lookup.{rows_from}
use Rattle.input_coercion.specs.Ends.{Coercion, Coercing, Checks}
use Rattle.input_coercion.specs.declared.check.Uncoerced.{Uncoerced}
use Rattle.input_coercion.proofs.Ends.{ends_none, ends_more, ends_here}

-- the runs of these rows
unfoldable pub each : {A : Type 0} → (ℕ → Coercing A) → List ℕ → Coercing (List A)
each run rows pool names p = in_order (λ row. run row pool names p) rows

module _ {A : Type 0} (run : ℕ → Coercing A) (first count : ℕ) where
  -- the rows from the i-th on
  abbrev rest : ℕ → List ℕ
  rest i = rows_from (first + i) (count - i)

  pub record Going (i : ℕ) : Type 0 where
    pub below : i ≤ count
    pub words : first + count ≤ 4294967296
    pub left : (r : Coercion) → Checks (each run (rest i)) r → Checks (each run (rows_from first count)) r

  pub going_begin : first + count ≤ 4294967296 → Going 0
  going_begin w = record { below = omega arith; words = w; left = λ r q. rw (add-zero, sub-zero) at q }

  next : {i : ℕ} → i < count → rest i ≡ (first + i) ∷ rest (i + 1)
  unfolding rows_from
  next {i} l =
      let s : count - i ≡ suc (count - (i + 1)) = omega arith in
      let t : first + (i + 1) ≡ suc (first + i) = omega arith in
      rw (s, t)

  pub going_again : {i : ℕ} → Going i → i < count → Checks (run (first + i)) (Ok tt) → Going (i + 1)
  unfolding each
  going_again {i} g l q = record {
    below = omega arith;
    words = g.words;
    left = λ s t. g.left s (rw (next l) (record {
      ends = λ pool names p. ends_more p (λ row. run row pool names p) (first + i) (rest (i + 1)) s (q.ends pool names p) (t.ends pool names p);
    }));
  }

  pub going_stopped : {i : ℕ} {e : Uncoerced} → Going i → i < count → Checks (run (first + i)) (Err e) → Checks (each run (rows_from first count)) (Err e)
  unfolding each
  going_stopped {i} {e} g l q = g.left (Err e) (rw (next l) (record {
    ends = λ pool names p. ends_here p (λ row. run row pool names p) (first + i) (rest (i + 1)) e (q.ends pool names p);
  }))

  pub going_ended : {i : ℕ} → Going i → count ≤ i → Checks (each run (rows_from first count)) (Ok tt)
  unfolding each rows_from
  going_ended {i} g l =
      let z : count - i ≡ 0 = omega arith in
      g.left (Ok tt) (rw z (record { ends = λ pool names p. ends_none p (λ row. run row pool names p) }))
