-- Rows looked at one after the other for two things: a test that each has to pass, and one that is only kept in mind. Assumes nothing.
use mathlib.Core.Path.{◌≡◌, sym}
use mathlib.Core.Bool.{Bool, true, false, not, ◌&&◌}
use Prim.Native.Nat.{ℕ, ◌+◌, ◌≤◌, ◌<◌}
use Rattle.std.specs.Prelude.{Some, None}
use Rattle.rows.specs.Rows.{all}
use Rattle.tables.specs.ByTable.{Looked}
use Rattle.rows.proofs.Every.{all_none, all_more, all_broken, all_ended, and_left, and_right}

module _ (p q : ℕ → Bool) where
  -- the rows before this one
  pub record Passed (row : ℕ) (plain : Bool) : Type 0 where
    pub held : all p row ≡ true
    pub kept : plain ≡ true → all q row ≡ true

  pub passed_none : Passed 0 true
  passed_none = record { held = all_none p; kept = λ e. all_none q }

  pub passed_more : (row : ℕ) (plain r one : Bool) → Passed row plain → r ≡ p row → not r ≡ false → one ≡ q row → Passed (row + 1) (plain && one)
  passed_more row plain r one h e n f = record {
    held = all_more p row r h.held e n;
    kept = λ g. all_more q row one (h.kept (and_left plain one g)) f (rw (and_right plain one g));
  }

  pub looked_broken : (row count : ℕ) (r : Bool) → row < count → r ≡ p row → not r ≡ true → Looked p q count None
  looked_broken row count r h e n = sym (all_broken p row count r h e n)

  pub looked_ended : (row count : ℕ) (plain : Bool) → Passed row plain → row ≤ count → count ≤ row → Looked p q count (Some plain)
  looked_ended row count plain h l m = (sym (all_ended p row count h.held l m), λ e. sym (all_ended q row count (h.kept e) l m))
