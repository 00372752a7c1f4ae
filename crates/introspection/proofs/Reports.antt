-- From how the walk ends to the report. Assumes nothing.
use mathlib.Core.Path.{◌≡◌, refl}
use mathlib.Core.Bool.{Bool, true, false, cond}
use mathlib.Core.List.{List, []}
use Prim.Native.Nat.{ℕ}
use native.Mathlib.Omega.{arith}
use lib.ListN.{replicate}
use Rattle.std.specs.Prelude.{None}
use Rattle.tables.specs.Tables.{Tables}
use Rattle.tables.specs.Lawful.{lawful, table_code}
use Rattle.codes.specs.Outcome.{code_of}
use Rattle.codes.specs.declared.outcome.Outcome.TheVariants.{Unlawful}
use Rattle.graphql.specs.Depth.{Rises, check_set, answered, depth_report}
use Rattle.graphql.specs.Depth as defined
use Rattle.introspection.specs.MaxDepth.{Answers, Checked, Marks, said, meant, Checks, Walkable}
use Rattle.introspection.specs.declared.max_depth.DepthAnswer.{DepthAnswer}
use Rattle.introspection.proofs.Marks.{unmarked}
use Rattle.introspection.proofs.Document.{walkable}

heard : (x : defined.Checked) → answered (meant (said x)) ≡ answered x
unfolding answered
heard defined.too_many_sets = refl
heard (defined.too_deep place) = refl
heard (defined.depth d rises) = refl

-- a walk that begins with nothing remembered
pub reported : (fragments : List ℕ) (x : Rises → defined.Checked) {sets : List ℕ} {marks' : Marks} {r : DepthAnswer} {checked : Checked}
    → Walkable sets fragments (replicate 64 None) 0 → Checks fragments (replicate 64 None) x checked marks' → Answers r (answered (meant checked)) → Answers r (answered (x []))
reported fragments x w q a =
    rw ((q.checks [] (unmarked fragments w.few)).what, heard (x [])) at a

module _ (T : Tables) {code : ℕ} (e : code ≡ table_code T) where
  broken : (code ≡ 0 → ⊥) → lawful T ≡ false
  unfolding table_code
  broken z = go (lawful T) e
    where
      go : (b : Bool) → code ≡ cond b 0 1 → b ≡ false
      go true h = absurd (z h)
      go false h = refl

  sound : code ≡ 0 → lawful T ≡ true
  unfolding table_code
  sound z = go (lawful T) e
    where
      go : (b : Bool) → code ≡ cond b 0 1 → b ≡ true
      go true h = refl
      go false h = absurd (omega arith)

  pub report_unlawful : {r : DepthAnswer} → (code ≡ 0 → ⊥) → r ≡ record { code = code_of Unlawful; depth = 0; place = 0 }
      → Answers r (depth_report T)
  unfolding depth_report
  report_unlawful z e = rw (broken z, e) (record { code = refl; depth = refl; place = refl })

  pub report_walkable : code ≡ 0 → Walkable T.sets T.fragments (replicate 64 None) 0
  report_walkable z = walkable T (sound z)

  pub report_checked : {r : DepthAnswer} → code ≡ 0
      → Answers r (answered (check_set T.sets T.selections T.fragments 32 0 0 [])) → Answers r (depth_report T)
  unfolding depth_report
  report_checked z a = rw (sound z) a
