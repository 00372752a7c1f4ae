-- How an error record is read from its words, and how its path is told. "Code, place, path length, then two words a segment (0 and name, or 1 and
-- index)."
use Rattle.std.specs.Prelude.{cond, List, [], ◌∷◌, ◌++◌, ℕ, ◌+◌, ◌*◌, min, length, take, drop, get_or, eqb}
use Rattle.rows.specs.Names.{name_text}
use Rattle.tokens.specs.Decimal.{decimal}

-- the words of the path of the record that comes first
unfoldable pub segments_in : List ℕ → List ℕ
segments_in words = take (2 * get_or words 2 0) (drop 3 words)

-- where the record ends that begins at this word
unfoldable pub record_end : List ℕ → ℕ → ℕ
record_end errors at = min (at + 3 + 2 * get_or errors (at + 2) 0) (length errors)

-- a segment: the bytes of a name, or an index in decimal
unfoldable pub told_segment : (pool names : List ℕ) → (kind value : ℕ) → List ℕ
told_segment pool names kind value = cond (eqb kind 0) (name_text pool names value) (decimal value)

-- behind another it has a dot before it
unfoldable pub told_behind : (pool names : List ℕ) → (kind value : ℕ) → List ℕ
told_behind pool names kind value = 46 ∷ told_segment pool names kind value

unfoldable pub told_below : (pool names : List ℕ) → List ℕ → List ℕ
told_below pool names [] = []
told_below pool names (kind ∷ []) = []
told_below pool names (kind ∷ value ∷ segments) = told_behind pool names kind value ++ told_below pool names segments

unfoldable pub told_path : (pool names : List ℕ) → List ℕ → List ℕ
told_path pool names [] = []
told_path pool names (kind ∷ []) = []
told_path pool names (kind ∷ value ∷ segments) = told_segment pool names kind value ++ told_below pool names segments
