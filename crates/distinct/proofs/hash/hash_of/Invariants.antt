-- The bytes passed are in the hash, eight by eight; the last eight follow. Assumes nothing.
use mathlib.Core.Path.{◌≡◌}
use Prim.Native.Nat.{◌<◌, ◌^◌}
use Rattle.distinct.specs.Hash.{hash_steps}
use Rattle.distinct.proofs.hash.hash_of.Given as goal

abbrev pub invariant-loop-step : goal.invariant-loop-step
invariant-loop-step l = (l.hash ≡ hash_steps l.bytes l.step) × (l.hash < 2 ^ 32)
