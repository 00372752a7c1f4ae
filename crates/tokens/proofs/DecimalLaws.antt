-- `decimal` by its two cases, with no bound on the divisions: the bound that the definition takes is never reached, since n / 10 is less than n
-- wherever n is divided. From these, the digits by the powers of ten that they count. Assumes nothing.
use mathlib.Core.Path.{◌≡◌, refl, ap, ◌∙◌}
use mathlib.Core.Bool.{Bool, true, false}
use mathlib.Core.List.{List, [], ◌∷◌, ◌++◌, append_assoc}
use Prim.Native.Nat.{ℕ, zero, suc, ◌/◌, ◌%◌, ◌≤◌, ◌<◌}
use native.Mathlib.Omega.{arith}
use borrow.Author.Tests.{lt-ltb, le-ltb, ltb-false}
use lib.Dec.{ltb}
use Rattle.tokens.specs.Decimal.{digit, decimal_within, decimal, four_digits, eight_digits}

-- a number below ten is its digit, whatever the bound
own_digit : (divisions n : ℕ) → decimal_within divisions n true ≡ digit n ∷ []
unfolding decimal_within
own_digit zero n = refl
own_digit (suc divisions) n = refl

-- two bounds that are large enough give the same
enough : (f g n : ℕ) (small : Bool) → n ≤ f → n ≤ g → ltb n 10 ≡ small → decimal_within f n small ≡ decimal_within g n small
unfolding decimal_within
enough zero zero n small h k e = refl
enough zero (suc g) n true h k e = refl
enough zero (suc g) n false h k e = absurd (omega (arith, ltb-false n 10 e))
enough (suc f) zero n true h k e = refl
enough (suc f) zero n false h k e = absurd (omega (arith, ltb-false n 10 e))
enough (suc f) (suc g) n true h k e = refl
enough (suc f) (suc g) n false h k e =
    let l = ltb-false n 10 e in
    ap (λ (front : List ℕ). front ++ (digit (n % 10) ∷ [])) (enough f g (n / 10) (ltb (n / 10) 10) (omega arith) (omega arith) refl)

pub decimal_small : (n : ℕ) → n < 10 → decimal n ≡ digit n ∷ []
unfolding decimal
decimal_small n h = rw (lt-ltb n 10 h) (own_digit n n)

pub decimal_more : (n : ℕ) → 10 ≤ n → decimal n ≡ decimal (n / 10) ++ (digit (n % 10) ∷ [])
unfolding decimal decimal_within
decimal_more zero h = absurd (omega arith)
decimal_more (suc m) h =
    rw (le-ltb (suc m) 10 h)
    (ap (λ (front : List ℕ). front ++ (digit (suc m % 10) ∷ [])) (enough m (suc m / 10) (suc m / 10) (ltb (suc m / 10) 10) (omega arith) (omega arith) refl))

-- ---- digits by their powers of ten

-- one digit behind those of a number that are known
behind : (n : ℕ) {front : List ℕ} → 10 ≤ n → decimal (n / 10) ≡ front → decimal n ≡ front ++ (digit (n % 10) ∷ [])
behind n h e = decimal_more n h ∙ ap (λ (l : List ℕ). l ++ (digit (n % 10) ∷ [])) e

pub decimal_two : (n : ℕ) → 10 ≤ n → n < 100 → decimal n ≡ digit (n / 10) ∷ digit (n % 10) ∷ []
decimal_two n h k = behind n h (decimal_small (n / 10) (omega arith))

pub decimal_three : (n : ℕ) → 100 ≤ n → n < 1000 → decimal n ≡ digit (n / 100) ∷ digit (n / 10 % 10) ∷ digit (n % 10) ∷ []
decimal_three n h k =
    let hundreds : n / 10 / 10 ≡ n / 100 = omega arith in
    rw hundreds at (behind n (omega arith) (decimal_two (n / 10) (omega arith) (omega arith)))

pub decimal_four : (n : ℕ) → 1000 ≤ n → n < 10000 → decimal n ≡ four_digits n
decimal_four n h k =
    let thousands : n / 10 / 100 ≡ n / 1000 = omega arith in
    let hundreds : n / 10 / 10 ≡ n / 100 = omega arith in
    rw (thousands, hundreds) at (behind n (omega arith) (decimal_three (n / 10) (omega arith) (omega arith)))

-- the last four, with zeros in front, and those before them
pub decimal_last_four : (n : ℕ) → 10000 ≤ n → decimal n ≡ decimal (n / 10000) ++ four_digits (n % 10000)
decimal_last_four n h =
    let e₄ : n / 10 / 10 / 10 / 10 ≡ n / 10000 = omega arith in
    let e₃ : n / 10 / 10 / 10 % 10 ≡ n % 10000 / 1000 = omega arith in
    let e₂ : n / 10 / 10 % 10 ≡ n % 10000 / 100 % 10 = omega arith in
    let e₁ : n / 10 % 10 ≡ n % 10000 / 10 % 10 = omega arith in
    let e₀ : n % 10 ≡ n % 10000 % 10 = omega arith in
    behind n (omega arith) (behind (n / 10) (omega arith) (behind (n / 10 / 10) (omega arith) (decimal_more (n / 10 / 10 / 10) (omega arith))))
    ∙ rw (e₄, e₃, e₂, e₁, e₀) (simp append_assoc)

-- the last eight
pub decimal_last_eight : (n : ℕ) → 100000000 ≤ n → decimal n ≡ decimal (n / 100000000) ++ eight_digits (n % 100000000)
decimal_last_eight n h =
    let e₂ : n / 10000 / 10000 ≡ n / 100000000 = omega arith in
    let e₁ : n / 10000 % 10000 ≡ n % 100000000 / 10000 = omega arith in
    let e₀ : n % 10000 ≡ n % 100000000 % 10000 = omega arith in
    decimal_last_four n (omega arith)
    ∙ ap (λ (l : List ℕ). l ++ four_digits (n % 10000)) (decimal_last_four (n / 10000) (omega arith))
    ∙ append_assoc (decimal (n / 10000 / 10000)) (four_digits (n / 10000 % 10000)) (four_digits (n % 10000))
    ∙ rw (e₂, e₁, e₀)
