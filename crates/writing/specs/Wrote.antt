-- What a step that writes at a position does to a buffer, whatever its elements are: `Writes` is what every writer ensures.
use Rattle.std.specs.Prelude.{◌≡◌, cond, ◌&&◌, List, [], ◌∷◌, ◌++◌, ℕ, suc, ◌+◌, ◌-◌, ◌≤◌, min, length, take, drop, replicate, leb, eqb}
use Rattle.std.proofs.Math.Seq.{slice}

-- From the position `at` to `at'`, `out` was written. A position past the buffer's end says only that what was to be written did not fit: all such
-- positions count as one. What stands before `at` stays in any case, so that a writer can go back to `at` and write something else.
pub record Wrote {A : Type 0} (before after : List A) (at at' : ℕ) (out : List A) : Type 0 where
  pub long : length after ≡ length before
  pub moved : min at' (suc (length before)) ≡ min (at + length out) (suc (length before))
  pub kept : take at after ≡ take at before
  pub shown : at' ≤ length before → take at' after ≡ take at before ++ out

-- The same buffer with `out` laid over it from `at` on, as much of it as there is room for. From a position past the end there is room for nothing.
unfoldable pub written : {A : Type 0} → List A → ℕ → List A → List A
written text at out = take at text ++ (take (length text - at) out ++ drop (at + length out) text)

-- The position after that: on by as many elements as `out` has, to one past the end and no further. Where nothing is written the position stays,
-- wherever it is.
unfoldable pub saturated : {A : Type 0} → List A → ℕ → List A → ℕ
saturated text at [] = at
saturated text at (b ∷ out) = min (at + suc (length out)) (suc (length text))

-- What every writer ensures: the buffer and the position after it, exactly. That `out` was written follows, and is what a caller needs who asks for no
-- more than the text.
pub record Writes {A : Type 0} (text text' : List A) (at at' : ℕ) (out : List A) : Type 0 where
  pub exact : text' ≡ written text at out
  pub moved : at' ≡ saturated text at out
  pub wrote : Wrote text text' at at' out

-- Entries that have a comma before each, between brackets: the first comma makes room for the left one.
unfoldable pub bracketed : ℕ → ℕ → List ℕ → List ℕ
bracketed left right [] = left ∷ right ∷ []
bracketed left right (comma ∷ entries) = left ∷ entries ++ (right ∷ [])

-- The buffer once the entries from `start` to `at` have their brackets: both are laid over it where the position is still `start`, since there are no
-- entries then; else the left one is laid over at `start`, where the first comma is, and the right one at `at`, after the last entry.
unfoldable pub closed : ℕ → ℕ → List ℕ → ℕ → ℕ → List ℕ
closed left right text start at =
    cond (eqb at start) (written text at (left ∷ right ∷ [])) (written (written text start (left ∷ [])) at (right ∷ []))

-- The position after that.
unfoldable pub closed_end : ℕ → ℕ → List ℕ → ℕ → ℕ → ℕ
closed_end left right text start at = cond (eqb at start) (saturated text at (left ∷ right ∷ [])) (saturated text at (right ∷ []))

-- The brackets are put, exactly so; and entries written from `start` to `at` have them then, whatever they are, and end at `end`.
pub record Closes (left right : ℕ) (before : List ℕ) (start at : ℕ) (after : List ℕ) (end : ℕ) : Type 0 where
  pub exact : after ≡ closed left right before start at
  pub moved : end ≡ closed_end left right before start at
  pub closes : (origin entries : List ℕ) → Wrote origin before start at entries → Wrote origin after start end (bracketed left right entries)

-- The same buffer with what lies from `b` to `e` before what lies from `a` to `b`.
abbrev pub rotated : ℕ → ℕ → ℕ → List ℕ → List ℕ
rotated a b e before = take a before ++ (slice b e before ++ (slice a b before ++ drop e before))

-- That, where the borders are in order and within the buffer; otherwise the same buffer.
unfoldable pub turned_into_place : ℕ → ℕ → ℕ → List ℕ → List ℕ
turned_into_place a b e before = cond (leb a b && (leb b e && leb e (length before))) (rotated a b e before) before

-- It is turned, exactly so; and what was written last, from `b` to `e`, goes before what was written from `a` to `b`.
pub record Moves (before : List ℕ) (a b e : ℕ) (after : List ℕ) : Type 0 where
  pub exact : after ≡ turned_into_place a b e before
  pub moves : (origin xs ys zs : List ℕ) (start : ℕ) → Wrote origin before start e (xs ++ (ys ++ zs))
      → (e ≤ length before → (a ≡ start + length xs) × (b ≡ start + length xs + length ys)) → Wrote origin after start e (xs ++ (zs ++ ys))

-- The same buffer with `blank` everywhere from `from` on.
abbrev pub filled_from : {A : Type 0} → A → ℕ → List A → List A
filled_from blank from before = take from before ++ replicate (length before - from) blank

-- Of bytes or words, with 0.
abbrev pub zeroed_from : ℕ → List ℕ → List ℕ
zeroed_from from before = filled_from 0 from before
