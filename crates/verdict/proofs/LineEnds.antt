-- No byte before the first line feed is one, and it is one itself. Assumes nothing.
use Rattle.std.proofs.Common.{◌≡◌, ◌==◌, ℕ, ◌+◌, ◌-◌, ◌<◌, ◌≤◌, List, length, get_or, take, drop, Bool, true, false, cond, arith}
use Rattle.std.specs.Prelude.{Some, None, position}
use borrow.Author.Tests.{ltb-false}
use Rattle.std.proofs.lemmas.List.{get_or-drop, length-drop, take_all}
use Rattle.std.proofs.lemmas.List.Sums.{fails_before_first}
use Rattle.std.proofs.lemmas.List.Quantifiers.{position-Some}
use Rattle.std.proofs.lemmas.Grind.{common_steps}
use Rattle.verdict.specs.Lines.{LineEnd}

is_none_no : (b : Bool) (i : ℕ) → cond b (Some i) None ≡ None → b ≡ false
is_none_no true i e = cc
is_none_no false i e = cc

none_before : (xs : List ℕ) (k : ℕ) → position (λ (b : ℕ). b == 10) xs ≡ None → k < length xs → get_or xs k 0 ≡ 10 → ⊥
none_before xs k h l e =
    let far = ltb-false _ _ (is_none_no _ _ h) in
    let no = fails_before_first (λ (b : ℕ). b == 10) xs k 0 (omega arith) in grind (arith, common_steps)

pub line_ends :
    (text : List ℕ) (from n : ℕ) → from ≤ length text → position (λ (b : ℕ). b == 10) (take (length text - from) (drop from text)) ≡ Some n
    → (from ≤ from + n) × (from + n ≤ length text) × LineEnd text from (from + n)
line_ends text from n h e =
    let all : length (drop from text) ≤ length text - from = omega (arith, length-drop from text) in
    let there = position-Some (λ (b : ℕ). b == 10) (drop from text) n 0 (rw (take_all (length text - from) (drop from text) all) at e) in
    let at = there.0 in (
      omega arith,
      omega (arith, length-drop from text),
      record {
        inside = λ k low high is.
            let j : from + (k - from) ≡ k = omega arith in
            let no = there.2 (k - from) (omega arith) in
            let same = get_or-drop from text (k - from) 0 in
            grind (arith, common_steps);
        ended = λ short. let same = get_or-drop from text n 0 in let yes = there.1 in grind (arith, common_steps);
      },
    )

pub last_line_ends :
    (text : List ℕ) (from : ℕ) → from ≤ length text → position (λ (b : ℕ). b == 10) (take (length text - from) (drop from text)) ≡ None
    → (from ≤ length text) × (length text ≤ length text) × LineEnd text from (length text)
last_line_ends text from h e =
    let all : length (drop from text) ≤ length text - from = omega (arith, length-drop from text) in
    let none = rw (take_all (length text - from) (drop from text) all) at e in (
      h,
      omega arith,
      record {
        inside = λ k low high is.
            let j : from + (k - from) ≡ k = omega arith in
            none_before (drop from text) (k - from) none (omega (arith, length-drop from text)) (rw (get_or-drop from text (k - from) 0, j) is);
        ended = λ short. absurd (omega arith);
      },
    )
