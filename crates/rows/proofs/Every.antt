-- What holds of every row below a number: of none, of one more, and where one breaks it. Assumes nothing.
use mathlib.Core.Path.{◌≡◌, refl, sym, ◌∙◌}
use mathlib.Core.Bool.{Bool, true, false, not, ◌&&◌, ◌||◌, true≢false, false≢true}
pub use mathlib.Core.Bool.{and-false}
use Prim.Native.Nat.{ℕ, zero, suc, ◌+◌, ◌≤◌, ◌<◌}
use native.Mathlib.Nat.{not-suc-le-zero}
use native.Mathlib.Decide.{dec_le}
use native.Mathlib.Numerals.{add-one}
use native.Mathlib.Omega.{arith}
use Rattle.rows.specs.Rows.{all}

pub falsified : (r b : Bool) → r ≡ b → not r ≡ true → b ≡ false
falsified true b e n = absurd (false≢true n)
falsified false b e n = sym e

pub verified : (r b : Bool) → r ≡ b → not r ≡ false → b ≡ true
verified true b e n = sym e
verified false b e n = absurd (true≢false n)

module _ (p : ℕ → Bool) where
  below_all : (i n : ℕ) → i < n → p i ≡ false → all p n ≡ false
  unfolding all
  below_all i zero h e = absurd (not-suc-le-zero h)
  below_all i (suc n) h e = go (dec_le (suc i) n) (λ l. below_all i n l e)
    where
      go : Dec (suc i ≤ n) → (suc i ≤ n → all p n ≡ false) → (all p n && p n) ≡ false
      go (yes l) below = rw (below l)
      go (no l) below = let s : i ≡ n = omega arith in rw (← s, e) (and-false (all p i))

  -- nothing has been looked at
  pub all_none : all p 0 ≡ true
  unfolding all
  all_none = refl

  -- the test r of the next one passed
  pub all_more : (i : ℕ) (r : Bool) → all p i ≡ true → r ≡ p i → not r ≡ false → all p (i + 1) ≡ true
  unfolding all
  all_more i r a e n = rw (add-one, a, verified r (p i) e n)

  -- the test r of one of them failed
  pub all_broken : (i n : ℕ) (r : Bool) → i < n → r ≡ p i → not r ≡ true → false ≡ all p n
  all_broken i n r h e f = sym (below_all i n h (falsified r (p i) e f))

  -- all have been looked at
  pub all_ended : (i n : ℕ) → all p i ≡ true → i ≤ n → n ≤ i → true ≡ all p n
  all_ended i n a h k = let e : i ≡ n = omega arith in sym (rw e at a)

pub ruleset every = (all_none, all_more, all_broken, all_ended)

-- what holds of all holds of each
pub all_at : (p : ℕ → Bool) (i n : ℕ) → i < n → all p n ≡ true → p i ≡ true
all_at p i n h a = go (p i) refl
  where
    go : (b : Bool) → p i ≡ b → p i ≡ true
    go true e = e
    go false e = absurd (true≢false (sym a ∙ below_all p i n h e))

-- what holds of each holds of all
pub all_each : (p : ℕ → Bool) (n : ℕ) → ((i : ℕ) → i < n → p i ≡ true) → all p n ≡ true
unfolding all
all_each p zero h = refl
all_each p (suc n) h = rw (all_each p n (λ i l. h i (omega arith)), h n (omega arith))

-- two tests that agree below n
pub all_same : (p q : ℕ → Bool) (n : ℕ) → ((i : ℕ) → i < n → p i ≡ q i) → all p n ≡ all q n
unfolding all
all_same p q zero h = refl
all_same p q (suc n) h = rw (all_same p q n (λ i l. h i (omega arith)), h n (omega arith))

pub and_left : (a b : Bool) → (a && b) ≡ true → a ≡ true
and_left true b e = refl
and_left false b e = absurd (false≢true e)

pub and_right : (a b : Bool) → (a && b) ≡ true → b ≡ true
and_right true b e = e
and_right false b e = absurd (false≢true e)

pub or_right : (a b : Bool) → (a || b) ≡ true → a ≡ false → b ≡ true
or_right true b e f = absurd (true≢false f)
or_right false b e f = e
