-- How what is kept of a table's texts follows its rows. Assumes nothing.
use mathlib.Core.Path.{◌≡◌, refl}
use mathlib.Core.List.{List}
use Prim.Native.Nat.{ℕ, ◌+◌, ◌%◌, ◌<◌}
use native.Mathlib.Omega.{arith}
use lib.ListN.{length, get_or, set, length-set, replicate, length-replicate}
use Rattle.distinct.specs.Differ.{AfterLast, Cursor}
use Rattle.distinct.specs.Texts.{other_text, text_hash, text_chain, Hashed, Kept}
use Rattle.distinct.proofs.Differ.{since_none, since_one}
use Rattle.distinct.proofs.Chains.{lasts_none, lasts_one, lasts_found, links_none, links_one, cursor_start}
use Rattle.distinct.proofs.HashLaws.{chain_other, hashed_none, hashed_one}

module _ (texts : ℕ → List ℕ) where
  -- nothing is kept
  pub kept_none : (size : ℕ) (since : List ℕ) → length since ≡ size + 1 → get_or since 0 0 ≡ 0
      → Kept texts 0 (replicate 2048 0) (replicate size 0) (replicate size 0) since
  kept_none size since e z = record {
    headed = lasts_none (text_chain texts) 2048;
    linked = links_none (text_chain texts) (replicate size 0);
    hashed = hashed_none texts (replicate size 0);
    told = since_none (other_text texts) since z;
    hashes_sized = refl;
    since_sized = simp length-replicate e;
  }

  module _ (row : ℕ) (heads next hashes since : List ℕ) (k : Kept texts row heads next hashes since)
      (hash : ℕ) (e : hash ≡ text_hash texts row) where
    chained : hash % 2048 ≡ text_chain texts row
    unfolding text_chain
    chained = rw e

    -- the way back from the next row begins at the head of its chain
    pub kept_cursor : Cursor (other_text texts) (text_chain texts) row (get_or heads (hash % 2048) 0)
    kept_cursor =
        cursor_start (text_chain texts) (other_text texts) (chain_other texts) row (hash % 2048)
        (get_or heads (hash % 2048) 0) chained (k.headed.noted (hash % 2048) (omega arith))

    pub kept_hashed : row < length next → Hashed texts (row + 1) (set hashes row hash)
    kept_hashed l = hashed_one texts row hashes hash k.hashed e (omega (arith, k.hashes_sized))

    -- the next row is kept
    pub kept_one : (s : ℕ) → row < length next → AfterLast (other_text texts row) (get_or since row 0) row s
        → Kept texts (row + 1) (set heads (hash % 2048) (row + 1)) (set next row (get_or heads (hash % 2048) 0)) (set hashes row hash)
        (set since (row + 1) s)
    kept_one s l a = record {
      headed = lasts_one (text_chain texts) 2048 row (hash % 2048) heads k.headed chained (omega arith);
      linked = links_one (text_chain texts) row (get_or heads (hash % 2048) 0) next k.linked
          (lasts_found (text_chain texts) 2048 row (hash % 2048) heads k.headed chained (omega arith)) l;
      hashed = kept_hashed l;
      told = since_one (other_text texts) row since k.told s a (omega (arith, k.since_sized));
      hashes_sized = simp length-set k.hashes_sized;
      since_sized = simp length-set k.since_sized;
    }
