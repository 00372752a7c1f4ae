-- A record's path is what stands behind its head, cut at the record's end. A path is told segment by segment: what the definition gives for the segments from one on begins with that one, and where less than a segment is
-- left it gives nothing. Assumes nothing.
use mathlib.Core.Path.{◌≡◌, refl, sym, ap}
use mathlib.Core.List.{List, [], ◌∷◌, ◌++◌}
use Prim.Native.Nat.{ℕ, ◌+◌, ◌*◌, ◌-◌, ◌≤◌, ◌<◌, min}
use native.Mathlib.Omega.{arith}
use borrow.Author.Tests.{ne_eqb, eq-eqb}
use lib.ListN.{length, take, drop, get_or, length-drop}
use lib.Seq.{take_all}
use Rattle.rows.specs.Names.{name_text}
use Rattle.tokens.specs.Decimal.{decimal}
use Rattle.writing.specs.Wrote.{Writes}
use Rattle.writing.proofs.WritesLaws.{stay, same, «then»}
use Rattle.telling.specs.Told.{segments_in, told_segment, told_behind, told_below, told_path}

-- ---- a record

pub path-in : (words : List ℕ) {path : List ℕ} → 3 ≤ length words → path ≡ take (2 * get_or words 2 0) (take (length words - 3) (drop 3 words)) → path ≡ segments_in words
unfolding segments_in
path-in words h e = rw e (ap (take (2 * get_or words 2 0)) (take_all (length words - 3) (drop 3 words) (omega (arith, length-drop 3 words))))

pub no-path-in : (words : List ℕ) → length words < 3 → [] ≡ segments_in words
unfolding segments_in
no-path-in [] h = refl
no-path-in (a ∷ []) h = refl
no-path-in (a ∷ b ∷ []) h = refl
no-path-in (a ∷ b ∷ c ∷ words) h = absurd (omega arith)

-- What is left of the words is the less where the record is cut short.
pub end-min : {at all : ℕ} (size : ℕ) → at < all → at + min (3 + size) (all - at) ≡ min (at + 3 + size) all
end-min size h = omega arith

-- ---- one segment

pub name_told : (pool names : List ℕ) {kind : ℕ} (value : ℕ) → kind ≡ 0 → name_text pool names value ≡ told_segment pool names kind value
unfolding told_segment
name_told pool names {kind} value e = simp (eq-eqb kind 0 e)

pub index_told : (pool names : List ℕ) {kind : ℕ} (value : ℕ) → (kind ≡ 0 → ⊥) → decimal value ≡ told_segment pool names kind value
unfolding told_segment
index_told pool names {kind} value other = simp (ne_eqb kind 0 other)

-- ---- those behind the first

below_step :
    (pool names s : List ℕ) → 2 ≤ length s
    → told_below pool names s ≡ told_behind pool names (get_or s 0 0) (get_or s 1 0) ++ told_below pool names (drop 2 s)
unfolding told_below
below_step pool names [] h = absurd (omega arith)
below_step pool names (kind ∷ []) h = absurd (omega arith)
below_step pool names (kind ∷ value ∷ s) h = refl

below_short : (pool names s : List ℕ) → length s < 2 → told_below pool names s ≡ []
unfolding told_below
below_short pool names [] h = refl
below_short pool names (kind ∷ []) h = refl
below_short pool names (kind ∷ value ∷ s) h = absurd (omega arith)

-- what is left of the segments behind one
below_all : (s : List ℕ) → take (length s - 2) (drop 2 s) ≡ drop 2 s
below_all s = take_all (length s - 2) (drop 2 s) (omega (arith, length-drop 2 s))

-- The segments before the rest are told: whoever tells the rest has told all.
pub record Telling (pool names s line₀ : List ℕ) (at : ℕ) (line : List ℕ) (next : ℕ) (rest : List ℕ) : Type 0 where
  pub completes : (line' : List ℕ) (end : ℕ) → Writes line line' next end (told_below pool names rest) → Writes line₀ line' at end (told_below pool names s)

pub tell_begin : (pool names s line : List ℕ) (at : ℕ) → Telling pool names s line at line at s
tell_begin pool names s line at = record { completes = λ line' end w. w }

pub tell-again :
    {pool names s line₀ line line' rest : List ℕ} {at next next' : ℕ} → Telling pool names s line₀ at line next rest → 2 ≤ length rest
    → Writes line line' next next' (told_behind pool names (get_or rest 0 0) (get_or rest 1 0))
    → Telling pool names s line₀ at line' next' (take (length rest - 2) (drop 2 rest))
tell-again {pool} {names} {rest = rest} g h w =
    record { completes = λ line'' end v. g.completes line'' end (same (sym (below_step pool names rest h)) («then» w (same (ap (told_below pool names) (below_all rest)) v))) }

pub tell-end :
    {pool names s line₀ line rest : List ℕ} {at next : ℕ} → Telling pool names s line₀ at line next rest → length rest < 2
    → Writes line₀ line at next (told_below pool names s)
tell-end {pool} {names} {line = line} {rest = rest} {next = next} g h =
    g.completes line next (same (sym (below_short pool names rest h)) (stay line next))

-- ---- a path

path_short : (pool names s : List ℕ) → length s < 2 → told_path pool names s ≡ []
unfolding told_path
path_short pool names [] h = refl
path_short pool names (kind ∷ []) h = refl
path_short pool names (kind ∷ value ∷ s) h = absurd (omega arith)

pub no-path : (pool names s : List ℕ) {line : List ℕ} → length s < 2 → Writes line line 0 0 (told_path pool names s)
no-path pool names s {line} h = same (sym (path_short pool names s h)) (stay line 0)

path-step :
    (pool names s : List ℕ) → 2 ≤ length s
    → told_path pool names s ≡ told_segment pool names (get_or s 0 0) (get_or s 1 0) ++ told_below pool names (drop 2 s)
unfolding told_path
path-step pool names [] h = absurd (omega arith)
path-step pool names (kind ∷ []) h = absurd (omega arith)
path-step pool names (kind ∷ value ∷ s) h = refl

-- The first segment is told and then those behind it, which are all that is left.
pub path-told :
    (pool names s : List ℕ) {line line' line'' : List ℕ} {next end : ℕ} → 2 ≤ length s
    → Writes line line' 0 next (told_segment pool names (get_or s 0 0) (get_or s 1 0))
    → Writes line' line'' next end (told_below pool names (take (length s - 2) (drop 2 s))) → Writes line line'' 0 end (told_path pool names s)
path-told pool names s h first rest =
    same (sym (path-step pool names s h)) («then» first (same (ap (told_below pool names) (below_all s)) rest))
