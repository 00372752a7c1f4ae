-- A number is read digit by digit, from the left. Assumes nothing.
use Rattle.std.proofs.Common.{◌≡◌, ℕ, ◌+◌, ◌*◌, ◌<◌, ◌≤◌, List, [], ◌∷◌, length, get_or, drop, refl, sym, ◌∙◌, arith}
use Rattle.std.specs.Prelude.{Option, Some, None, Result, Ok, Err, SomeIff, OkIff, MatchResult, IsErrAnd}
use Rattle.std.specs.Option.{ok_or}
use Rattle.std.specs.Char.{digit_value}
use Rattle.std.proofs.lemmas.List.{at_drop_more, drop_all}
use Rattle.std.proofs.lemmas.Grind.{common_steps}
use Rattle.table_file.specs.declared.fault.Fault.{Fault}
use Rattle.table_file.specs.declared.fault.Fault.TheVariants as fault
use Rattle.table_file.specs.Decimals.{digits_behind, decimal_of, as_word}

-- a byte that is a digit, and the number with it small enough; no digit; too large a number
digit_read :
    (value b : ℕ) (rest : List ℕ) → digit_value b < 10 → value * 10 + digit_value b < 18446744073709551616
    → digits_behind value (b ∷ rest) ≡ digits_behind (value * 10 + digit_value b) rest
unfolding digits_behind
digit_read value b rest d h = grind (arith, common_steps)

no_digit : (value b : ℕ) (rest : List ℕ) → 10 ≤ digit_value b → digits_behind value (b ∷ rest) ≡ Err fault.NotANumber
unfolding digits_behind
no_digit value b rest d = grind (arith, common_steps)

too_large :
    (value b : ℕ) (rest : List ℕ) → digit_value b < 10 → 18446744073709551616 ≤ value * 10 + digit_value b
    → digits_behind value (b ∷ rest) ≡ Err fault.NumberTooLarge
unfolding digits_behind
too_large value b rest d h = grind (arith, common_steps)

pub no_token : (token : List ℕ) → length token ≡ 0 → Err fault.NotANumber ≡ decimal_of token
unfolding decimal_of
no_token [] h = refl
no_token (b ∷ rest) h = absurd (omega arith)

pub begun : (token : List ℕ) → 0 < length token → decimal_of token ≡ digits_behind 0 token
unfolding decimal_of
begun [] h = absurd (omega arith)
begun (b ∷ rest) h = refl

-- what a checked step gave, and what it gave up for
pub given : {P : Type 0} (o : Option ℕ) (v x : ℕ) (why : Fault) → SomeIff o P v → ok_or o why ≡ Ok x → P × (x ≡ v)
given None v x why s is = cc
given (Some y) v x why s is = let e : y ≡ x = cc in (s.0, sym e ∙ s.1)

pub given_up : {P : Type 0} (o : Option ℕ) (v : ℕ) (why e : Fault) → SomeIff o P v → ok_or o why ≡ Err e → (P → ⊥) × (e ≡ why)
given_up None v why e s is = let same : why ≡ e = cc in (s, sym same)
given_up (Some y) v why e s is = cc

-- so far the digits before place `i` were read
module _ (token : List ℕ) (value i : ℕ) (so_far : decimal_of token ≡ digits_behind value (drop i token)) where
  pub ended : length token ≤ i → Ok value ≡ decimal_of token
  unfolding digits_behind
  ended h = sym (rw (so_far, drop_all i token h))

  module _ (h : i < length token) where
    at_byte : decimal_of token ≡ digits_behind value (get_or token i 0 ∷ drop (i + 1) token)
    at_byte = so_far ∙ at_drop_more (digits_behind value) token i 0 h

    pub stopped : (digit_value (get_or token i 0) < 10 → ⊥) → Err fault.NotANumber ≡ decimal_of token
    stopped other = sym (rw at_byte (no_digit value (get_or token i 0) (drop (i + 1) token) (omega (arith, other))))

    module _ (digit : ℕ) (d : (digit_value (get_or token i 0) < 10) × (digit ≡ digit_value (get_or token i 0))) where
      pub one_more : value * 10 + digit < 18446744073709551616 → decimal_of token ≡ digits_behind (value * 10 + digit) (drop (i + 1) token)
      one_more fits = rw (at_byte, d.1) (digit_read value (get_or token i 0) (drop (i + 1) token) d.0 (rw d.1 at fits))

      pub over : 18446744073709551616 ≤ value * 10 + digit → Err fault.NumberTooLarge ≡ decimal_of token
      over large = sym (rw at_byte (too_large value (get_or token i 0) (drop (i + 1) token) d.0 (rw d.1 at large)))

-- a number is a word where it fits one; what is said of another is L
pub as_word_found :
    {E : Type 0} (L : E → Fault → Type 0) (t : Result ℕ E) (n : ℕ) (r : Result ℕ Fault) → ((e : E) (why : Fault) → L e why → why ≡ fault.NumberTooLarge)
    → OkIff t (n < 4294967296) n → MatchResult t (λ x. r ≡ Ok x) (λ e. IsErrAnd r (L e)) → r ≡ as_word (Ok n)
as_word_found L (Ok x) n r told t m = grind (arith, common_steps)
as_word_found L (Err e) n (Ok x) told t m = absurd m
as_word_found L (Err e) n (Err why) told t m = let is = told e why m in grind (arith, common_steps)
