-- How the writing of a value ended: with its text and the position after it, or where the run stops. Assumes nothing.
use mathlib.Core.Path.{◌≡◌, refl, ◌∙◌}
use mathlib.Core.List.{List, []}
use Rattle.std.specs.Prelude.{Result, Ok, Err}
use Prim.Native.Nat.{ℕ}
use native.Mathlib.Omega.{arith}
use lib.ListN.{length}
use Rattle.writing.specs.Wrote.{Writes}
use Rattle.codes.specs.Outcome.{code_of}
use Rattle.codes.specs.declared.outcome.Outcome.{Outcome}
use Rattle.graphql.specs.Run.{Choices, M, stop, done, pure, halt}
use Rattle.graphql.specs.Json.{Json, print}
use Rattle.values.specs.Put.{Put, ended, Ends, Puts}

module _ {m : M Json} {before after : List ℕ} {at : ℕ} where
  -- the two ways
  pub ends_at : (j : Json) {end : ℕ} → ((c : Choices) → m c ≡ done j [] c) → Writes before after at end (print j) → Puts m before at (Ok end) after
  unfolding ended pure
  ends_at j e w = record { value = Ok j; is = e; put = record { end = _; is = refl; writes = w } }

  pub ends_stopped : {o : Outcome} → ((c : Choices) → m c ≡ stop (code_of o) []) → length after ≡ length before → Puts m before at (Err o) after
  unfolding ended halt
  ends_stopped {o} e l = record { value = Err o; is = e; put = record { is = refl; long = l } }

-- and which it was
module _ {m : M Json} {before after : List ℕ} {at : ℕ} {r : Put} (q : Puts m before at r after) where
  pub came_at : {end : ℕ} → r ≡ Ok end → (j : Json) × ((c : Choices) → m c ≡ done j [] c) × Writes before after at end (print j)
  unfolding ended pure
  came_at {end} e = go q.value q.is q.put
    where
      go : (v : Result Json Outcome) → ((c : Choices) → m c ≡ ended v c) → Ends v before at r after
          → (j : Json) × ((c : Choices) → m c ≡ done j [] c) × Writes before after at end (print j)
      go (Ok j) is put = let w = put.is in let s : put.end ≡ end = cc in (j, is, rw s at put.writes)
      go (Err o) is put = let w = put.is in absurd (let z : ◌≡◌ {A = ℕ} 0 1 = cc in omega arith)

  -- it stopped: the run stops at that outcome's code, and the buffer is as long as it was
  pub came_too_far : {o : Outcome} → r ≡ Err o → ((c : Choices) → m c ≡ stop (code_of o) []) × (length after ≡ length before)
  unfolding ended halt
  came_too_far {o} e = go q.value q.is q.put
    where
      go : (v : Result Json Outcome) → ((c : Choices) → m c ≡ ended v c) → Ends v before at r after
          → ((c : Choices) → m c ≡ stop (code_of o) []) × (length after ≡ length before)
      go (Ok j) is put = let w = put.is in absurd (let z : ◌≡◌ {A = ℕ} 0 1 = cc in omega arith)
      go (Err p) is put =
          let w = put.is in
          let s : p ≡ o = cc in
          let here : (c : Choices) → m c ≡ stop (code_of p) [] = is in
          (rw s at here, put.long)

  -- what stops where this one does ends as it did
  pub stops_too : {m' : M Json} {before' : List ℕ} {at' : ℕ} {o : Outcome} → r ≡ Err o → length before ≡ length before'
      → ((s : ℕ) → ((c : Choices) → m c ≡ stop s []) → (c : Choices) → m' c ≡ stop s []) → Puts m' before' at' (Err o) after
  unfolding ended halt
  stops_too {m'} {before'} {at'} {o} e l k = go q.value q.is q.put
    where
      go : (v : Result Json Outcome) → ((c : Choices) → m c ≡ ended v c) → Ends v before at r after → Puts m' before' at' (Err o) after
      go (Ok j) is put = let w = put.is in absurd (let z : ◌≡◌ {A = ℕ} 0 1 = cc in omega arith)
      go (Err p) is put =
          let w = put.is in
          let s : p ≡ o = cc in
          ends_stopped (rw s at (k (code_of p) is)) (put.long ∙ l)
