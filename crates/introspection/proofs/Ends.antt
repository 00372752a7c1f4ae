-- How a check ends: at once, as another does, or stopped on its way. Assumes nothing.
use mathlib.Core.Path.{◌≡◌, refl}
use mathlib.Core.List.{List}
use Prim.Native.Nat.{ℕ}
use native.Mathlib.Omega.{arith}
use Rattle.std.specs.Prelude.{Ok, Err}
use Rattle.graphql.specs.Depth.{Rises, and_then}
use Rattle.graphql.specs.Depth as defined
use Rattle.introspection.specs.MaxDepth.{Checked, Marks, Marked, Ends, Checks}
use Rattle.introspection.specs.declared.max_depth.Unmeasured.{Unmeasured}
use Rattle.introspection.specs.declared.max_depth.Unmeasured.TheVariants.{TooDeep}

module _ (fragments : List ℕ) {marks : Marks} (x : Rises → defined.Checked) where
  pub level : (d : ℕ) → ((rises : Rises) → Marked fragments marks rises → x rises ≡ defined.depth d rises) → Checks fragments marks x (Ok d) marks
  level d h = record { kept = refl; checks = λ rises m. rw (h rises m) (record { what = refl; remembers = m }) }

  pub refused : (place : ℕ) → ((rises : Rises) → Marked fragments marks rises → x rises ≡ defined.too_deep place) → Checks fragments marks x (Err (TooDeep place)) marks
  refused place h = record { kept = refl; checks = λ rises m. rw (h rises m) (record { what = refl; remembers = tt }) }

  pub like : {r : Checked} {marks' : Marks} (y : Rises → defined.Checked) → ((rises : Rises) → Marked fragments marks rises → x rises ≡ y rises)
      → Checks fragments marks y r marks' → Checks fragments marks x r marks'
  like y h q = record { kept = q.kept; checks = λ rises m. rw (h rises m) (q.checks rises m) }

-- a check that did not come to a depth
pub stopped : (fragments : List ℕ) {why : Unmeasured} {marks' : Marks} (x : defined.Checked) (k : ℕ → Rises → defined.Checked)
    → Ends fragments x (Err why) marks' → Ends fragments (and_then x k) (Err why) marks'
unfolding and_then
stopped fragments defined.too_many_sets k e = e
stopped fragments (defined.too_deep place) k e = e
stopped fragments (defined.depth d rises) k e = let w = e.what in absurd (let z : ◌≡◌ {A = ℕ} 0 1 = cc in omega arith)

-- a check that did: what is remembered then
pub came : (fragments : List ℕ) {d : ℕ} {marks' : Marks} (x : defined.Checked) → Ends fragments x (Ok d) marks'
    → (rises : Rises) × (x ≡ defined.depth d rises) × Marked fragments marks' rises
came fragments defined.too_many_sets e = let w = e.what in absurd (let z : ◌≡◌ {A = ℕ} 0 1 = cc in omega arith)
came fragments (defined.too_deep place) e = let w = e.what in absurd (let z : ◌≡◌ {A = ℕ} 0 1 = cc in omega arith)
came fragments {d} (defined.depth d' rises) e = let w = e.what in let s : d' ≡ d = cc in (rises, rw s, e.remembers)
