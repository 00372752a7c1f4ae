-- The definition gives a value one end, and a value one text; what lies where is then made of equations. Assumes nothing.
use mathlib.Core.Path.{◌≡◌, sym, ap, ◌∙◌}
use mathlib.Core.List.{List, []}
use Rattle.std.specs.Prelude.{Result, Ok, Err}
use Prim.Native.Nat.{ℕ}
use native.Mathlib.Omega.{arith}
use lib.ListN.{length}
use Rattle.codes.specs.Outcome.{code_of}
use Rattle.codes.specs.declared.outcome.Outcome.{Outcome}
use Rattle.graphql.specs.Run.{M, pure, halt}
use Rattle.graphql.specs.Json.{Json}
use Rattle.values.specs.Put.{Put, ended, Ends, Puts, PutNodeDetermined}
use Rattle.values.specs.Literals.{PutLiteralDetermined}
use Rattle.values.proofs.Codes.{code_tells}

-- a run ends in one way
ended_once : (v v' : Result Json Outcome) → ended v [] ≡ ended v' [] → v ≡ v'
unfolding ended pure halt
ended_once (Ok j) (Ok j') e = let s : j ≡ j' = cc in rw s
ended_once (Ok j) (Err o) e = absurd (let z : ◌≡◌ {A = ℕ} 0 1 = cc in omega arith)
ended_once (Err o) (Ok j) e = absurd (let z : ◌≡◌ {A = ℕ} 0 1 = cc in omega arith)
ended_once (Err o) (Err o') e = let s : code_of o ≡ code_of o' = cc in rw (code_tells o o' s)

module _ (before : List ℕ) (at : ℕ) {after after' : List ℕ} {r r' : Put} where
  ends_once : (v : Result Json Outcome) → Ends v before at r after → Ends v before at r' after'
      → (r ≡ r') × (length after ≡ length after') × ((end : ℕ) → r ≡ Ok end → after ≡ after')
  ends_once (Ok j) q q' =
      let same : after ≡ after' = q.writes.exact ∙ sym q'.writes.exact in
      (q.is ∙ ap Ok (q.writes.moved ∙ sym q'.writes.moved) ∙ sym q'.is, ap length same, λ end e. same)
  ends_once (Err o) q q' =
      (q.is ∙ sym q'.is, q.long ∙ sym q'.long, λ end e. let w = q.is in absurd (let z : ◌≡◌ {A = ℕ} 0 1 = cc in omega arith))

  pub puts_once : {m : M Json} → Puts m before at r after → Puts m before at r' after'
      → (r ≡ r') × (length after ≡ length after') × ((end : ℕ) → r ≡ Ok end → after ≡ after')
  puts_once q q' = ends_once q'.value (rw (ended_once q.value q'.value (sym (q.is []) ∙ q'.is [])) at q.put) q'.put

pub put_node_determined : PutNodeDetermined
put_node_determined pool nodes room row before at r r' after after' q q' = puts_once before at q q'

pub put_literal_determined : PutLiteralDetermined
put_literal_determined pool names literals room row before at r r' after after' q q' = puts_once before at q q'
