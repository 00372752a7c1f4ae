-- What each function of `numbers` leaves of a text is what the part of the grammar that it looks for leaves of it.
-- Assumes nothing.
use mathlib.Core.Path.{◌≡◌, refl, sym, ap, ◌∙◌}
use mathlib.Core.Bool.{Bool, true, false, not, ◌&&◌, ◌||◌}
use mathlib.Core.Logic.{⊎_elim}
use mathlib.Core.List.{List, [], ◌∷◌}
use Rattle.std.proofs.Common.{Bor}
use Rattle.std.specs.Prelude.{Option, Some, None, MatchOption, option_copied}
use Rattle.std.specs.Option.{unwrap_or}
use Prim.Native.Nat.{ℕ, ◌-◌, ◌≤◌, ◌<◌}
use native.Mathlib.Omega.{arith}
use borrow.Author.Tests.{le-leb, ne_eqb, eqb-true, eqb-false}
use lib.Dec.{leb, eqb, eqb-suc-zero}
use lib.ListN.{length, get_or, take, drop}
use lib.Seq.{take_all}
use Rattle.text.specs.Grammar.{◌to◌, ◌∈◌, one, or_else, optional, rest_or, is_there, is_end}
use Rattle.text.specs.Numbers.{DIGIT, is_e, digits, digits1, decimal_point, digit1_9, e, minus, plus, zero, int, frac, sign, exp}
use Rattle.text.specs.Numbers.{frac_or_exp, is_float}
use Rattle.text.proofs.Reading.{le_or_lt, below_range}

-- ---- kinds of octets

-- from `0` on an octet is a digit up to `9`
pub digit_or_above : (c : ℕ) → 0x30 ≤ c → leb c 0x39 ≡ DIGIT c
digit_or_above c h = simp (le-leb 0x30 c h)

-- below `0` none is
pub below_digits : (c : ℕ) → c < 0x30 → false ≡ DIGIT c
below_digits c h = sym (below_range 0x30 0x39 c h)

-- `e` is one
pub small_e : (c : ℕ) → c ≡ 0x65 → true ≡ is_e c
small_e c h = simp h

-- and another octet is one if it is `E`
pub maybe_capital_e : (c : ℕ) → (c ≡ 0x65 → ⊥) → eqb c 0x45 ≡ is_e c
maybe_capital_e c h = simp (ne_eqb c 0x65 h)

-- ---- one octet, at the beginning of a text

module _ (kind : ℕ → Bool) where
  one_there : (s : List ℕ) → 1 ≤ length s → kind (get_or s 0 0) ≡ true → Some (take (length s - 1) (drop 1 s)) ≡ one kind s
  one_there [] l t = absurd (omega arith)
  one_there (c ∷ s) l t = rw (take_all (length (c ∷ s) - 1) s (omega arith), t)

  one_other : (s : List ℕ) → 1 ≤ length s → kind (get_or s 0 0) ≡ false → None ≡ one kind s
  one_other [] l t = absurd (omega arith)
  one_other (c ∷ s) l t = rw t

  one_empty : (s : List ℕ) → length s < 1 → None ≡ one kind s
  one_empty [] l = refl
  one_empty (c ∷ s) l = absurd (omega arith)

-- either of two
either_octet : (p q : ℕ → Bool) (t : List ℕ) → or_else (one p t) (one q t) ≡ one (λ c. p c || q c) t
either_octet p q [] = refl
either_octet p q (c ∷ t) = by_test (p c) refl
  where
    by_test : (b : Bool) → p c ≡ b → or_else (one p (c ∷ t)) (one q (c ∷ t)) ≡ one (λ d. p d || q d) (c ∷ t)
    by_test true e = rw e
    by_test false e = rw e

-- ---- digits

-- one more is passed
pub digit_passed : (s rest : List ℕ) → digits rest ≡ digits s → 1 ≤ length rest → DIGIT (get_or rest 0 0) ≡ true
    → digits (take (length rest - 1) (drop 1 rest)) ≡ digits s
unfolding digits
digit_passed s [] i l t = absurd (omega arith)
digit_passed s (c ∷ rest) i l t = rw (take_all (length (c ∷ rest) - 1) rest (omega arith)) (rw t at i)

-- or none stands there
pub digits_stop : (s rest : List ℕ) → digits rest ≡ digits s → 1 ≤ length rest → DIGIT (get_or rest 0 0) ≡ false → rest ≡ digits s
unfolding digits
digits_stop s [] i l t = absurd (omega arith)
digits_stop s (c ∷ rest) i l t = rw t at i

pub digits_over : (s rest : List ℕ) → digits rest ≡ digits s → length rest < 1 → rest ≡ digits s
unfolding digits
digits_over s [] i l = i
digits_over s (c ∷ rest) i l = absurd (omega arith)

module _ (s : List ℕ) where
  pub digits1_there : 1 ≤ length s → DIGIT (get_or s 0 0) ≡ true → (past : List ℕ) → past ≡ digits (take (length s - 1) (drop 1 s))
      → Some past ≡ digits1 s
  unfolding digits1
  digits1_there l t past p = rw (← (one_there DIGIT s l t), p) refl

  pub digits1_other : 1 ≤ length s → DIGIT (get_or s 0 0) ≡ false → None ≡ digits1 s
  unfolding digits1
  digits1_other l t = rw (← (one_other DIGIT s l t)) refl

  pub digits1_empty : length s < 1 → None ≡ digits1 s
  unfolding digits1
  digits1_empty l = rw (← (one_empty DIGIT s l)) refl

-- ---- an optional part, which may be one of two

module _ (s : List ℕ) where
  pub minus_there : 1 ≤ length s → eqb (get_or s 0 0) 0x2D ≡ true → take (length s - 1) (drop 1 s) ≡ optional minus s
  unfolding minus
  minus_there l t = rw (← (one_there (λ c. eqb c 0x2D) s l t)) refl

  pub minus_other : 1 ≤ length s → eqb (get_or s 0 0) 0x2D ≡ false → s ≡ optional minus s
  unfolding minus
  minus_other l t = rw (← (one_other (λ c. eqb c 0x2D) s l t)) refl

  pub minus_empty : length s < 1 → s ≡ optional minus s
  unfolding minus
  minus_empty l = rw (← (one_empty (λ c. eqb c 0x2D) s l)) refl

  signs : sign s ≡ one (λ c. eqb c 0x2D || eqb c 0x2B) s
  unfolding sign minus plus
  signs = either_octet (λ c. eqb c 0x2D) (λ c. eqb c 0x2B) s

  pub sign_there : 1 ≤ length s → (eqb (get_or s 0 0) 0x2D || eqb (get_or s 0 0) 0x2B) ≡ true → take (length s - 1) (drop 1 s) ≡ optional sign s
  sign_there l t = rw (signs, ← (one_there (λ c. eqb c 0x2D || eqb c 0x2B) s l t)) refl

  pub sign_other : 1 ≤ length s → (eqb (get_or s 0 0) 0x2D || eqb (get_or s 0 0) 0x2B) ≡ false → s ≡ optional sign s
  sign_other l t = rw (signs, ← (one_other (λ c. eqb c 0x2D || eqb c 0x2B) s l t)) refl

  pub sign_empty : length s < 1 → s ≡ optional sign s
  sign_empty l = rw (signs, ← (one_empty (λ c. eqb c 0x2D || eqb c 0x2B) s l)) refl

-- ---- a part by what was found of its own parts

not_zero : (x : ℕ) → eqb x 0x30 ≡ false → (x ∈ (0x31 to 0x39)) ≡ DIGIT x
not_zero x n =
    ⊎_elim
    (λ (p : 0x30 ≤ x).
    let more : 0x31 ≤ x = omega (arith, eqb-false x 0x30 n) in
    ap (λ (b : Bool). b && leb x 0x39) (le-leb 0x31 x more ∙ sym (le-leb 0x30 x p)))
    (λ (p : x < 0x30). below_range 0x31 0x39 x (omega arith) ∙ sym (below_range 0x30 0x39 x p))
    (le_or_lt 0x30 x)

module _ (s : List ℕ) where
  pub zero_there : 1 ≤ length s → eqb (get_or s 0 0) 0x30 ≡ true → Some (take (length s - 1) (drop 1 s)) ≡ int s
  unfolding int zero
  zero_there l t = rw (← (one_there (λ c. eqb c 0x30) s l t)) refl

  -- where no zero stands, the digits begin with a digit1-9
  no_zero : (t : List ℕ) → None ≡ one (λ c. eqb c 0x30) t → digits1 t ≡ int t
  unfolding int zero digit1_9 digits1
  no_zero [] n = refl
  no_zero (c ∷ t) n = by_test (eqb c 0x30) refl
    where
      by_test : (b : Bool) → eqb c 0x30 ≡ b → digits1 (c ∷ t) ≡ int (c ∷ t)
      by_test true q = let z : ◌≡◌ {A = Option (List ℕ)} None (Some t) = n ∙ rw q in cc
      by_test false q = rw (q, not_zero c q)

  pub zero_other : 1 ≤ length s → eqb (get_or s 0 0) 0x30 ≡ false → (found : Option (List ℕ)) → found ≡ digits1 s → found ≡ int s
  zero_other l t found h = h ∙ no_zero s (one_other (λ c. eqb c 0x30) s l t)

  pub zero_empty : length s < 1 → (found : Option (List ℕ)) → found ≡ digits1 s → found ≡ int s
  zero_empty l found h = h ∙ no_zero s (one_empty (λ c. eqb c 0x30) s l)

  pub frac_there : 1 ≤ length s → eqb (get_or s 0 0) 0x2E ≡ true → (found : Option (List ℕ)) → found ≡ digits1 (take (length s - 1) (drop 1 s))
      → found ≡ frac s
  unfolding frac decimal_point
  frac_there l t found h = h ∙ rw (← (one_there (λ c. eqb c 0x2E) s l t)) refl

  pub frac_other : 1 ≤ length s → eqb (get_or s 0 0) 0x2E ≡ false → None ≡ frac s
  unfolding frac decimal_point
  frac_other l t = rw (← (one_other (λ c. eqb c 0x2E) s l t)) refl

  pub frac_empty : length s < 1 → None ≡ frac s
  unfolding frac decimal_point
  frac_empty l = rw (← (one_empty (λ c. eqb c 0x2E) s l)) refl

  pub exp_there : 1 ≤ length s → is_e (get_or s 0 0) ≡ true → (next : List ℕ) → next ≡ optional sign (take (length s - 1) (drop 1 s))
      → (found : Option (List ℕ)) → found ≡ digits1 next → found ≡ exp s
  unfolding exp e
  exp_there l t next p found h = h ∙ rw (← (one_there is_e s l t), p) refl

  pub exp_other : 1 ≤ length s → is_e (get_or s 0 0) ≡ false → None ≡ exp s
  unfolding exp e
  exp_other l t = rw (← (one_other is_e s l t)) refl

  pub exp_empty : length s < 1 → None ≡ exp s
  unfolding exp e
  exp_empty l = rw (← (one_empty is_e s l)) refl

-- ---- the whole number

end_test : (s : List ℕ) → eqb (length s) 0 ≡ is_end s
end_test [] = refl
end_test (c ∷ s) = eqb-suc-zero (length s)

module _ (s past end : List ℕ) (a b : Option (List ℕ)) (f : a ≡ frac s) (p : past ≡ rest_or a s)
    (x : b ≡ exp past) (q : end ≡ rest_or b past) where
  parts : frac_or_exp s ≡ (is_end end && (is_there a || is_there b))
  unfolding frac_or_exp
  parts = rw (← f, ← p, ← x, ← q) refl

-- at the end of the text one of the parts is there just if the text is not empty
some_part : (s past end : List ℕ) (a b : Option (List ℕ)) → a ≡ frac s → past ≡ rest_or a s → b ≡ exp past → end ≡ rest_or b past
    → length end ≡ 0 → (is_there a || is_there b) ≡ not (eqb (length s) 0)
unfolding frac decimal_point exp e
some_part [] past end None None f p x q l = refl
some_part [] past end None (Some y) f p x q l = let z : ◌≡◌ {A = Option (List ℕ)} (Some y) None = rw p at x in cc
some_part [] past end (Some y) b f p x q l = let z : ◌≡◌ {A = Option (List ℕ)} (Some y) None = f in cc
some_part (c ∷ s) past end None None f p x q l = let z : length (c ∷ s) ≡ 0 = ap length (sym p) ∙ ap length (sym q) ∙ l in absurd (omega arith)
some_part (c ∷ s) past end None (Some y) f p x q l = rw (eqb-suc-zero (length s)) refl
some_part (c ∷ s) past end (Some y) b f p x q l = rw (eqb-suc-zero (length s)) refl

now_or : (r : Option (Bor (List ℕ))) (s : Bor (List ℕ)) → (unwrap_or r s).now ≡ rest_or (option_copied r) s.now
now_or None s = refl
now_or (Some x) s = refl

module _ (s past end : Bor (List ℕ)) (a b : Option (Bor (List ℕ))) (f : option_copied a ≡ frac s.now) (p : past ≡ unwrap_or a s)
    (x : option_copied b ≡ exp past.now) (q : end ≡ unwrap_or b past) (empty : Bool) (t : empty ≡ eqb (length end.now) 0) where
  past_now : past.now ≡ rest_or (option_copied a) s.now
  past_now = ap (λ (x : Bor (List ℕ)). x.now) p ∙ now_or a s

  end_now : end.now ≡ rest_or (option_copied b) past.now
  end_now = ap (λ (x : Bor (List ℕ)). x.now) q ∙ now_or b past

  both : frac_or_exp s.now ≡ (is_end end.now && (is_there (option_copied a) || is_there (option_copied b)))
  both = parts s.now past.now end.now (option_copied a) (option_copied b) f past_now x end_now

  pub none_left : empty ≡ true → (none : Bool) → none ≡ eqb (length s.now) 0 → not none ≡ frac_or_exp s.now
  none_left w none n =
      let z : is_end end.now ≡ true = sym (end_test end.now) ∙ sym t ∙ w in
      let l : length end.now ≡ 0 = eqb-true (length end.now) 0 (sym t ∙ w) in
      ap not n ∙ sym (both ∙ rw z (some_part s.now past.now end.now (option_copied a) (option_copied b) f past_now x end_now l))

  pub some_left : empty ≡ false → empty ≡ frac_or_exp s.now
  some_left w = let z : is_end end.now ≡ false = sym (end_test end.now) ∙ sym t ∙ w in w ∙ sym (both ∙ rw z refl)

pub float_found : (s : List ℕ) (from : Bor (List ℕ)) (whole : Option (Bor (List ℕ))) (r : Bool) {P : Bor (List ℕ) → Type 0} → from.now ≡ optional minus s
    → option_copied whole ≡ int from.now → MatchOption whole (r ≡ false) P → ((past : Bor (List ℕ)) → P past → r ≡ frac_or_exp past.now) → r ≡ is_float s
unfolding is_float
float_found s from None r m w k h = k ∙ rw (← m, ← w)
float_found s from (Some past) r m w k h = h past k ∙ sym (rw (← m, ← w))
