-- What lawful tables are: each rule at each row, and the code from the two halves of the check. Assumes nothing.
use mathlib.Core.Path.{◌≡◌}
use mathlib.Core.Bool.{Bool, true, false, not}
use Prim.Native.Nat.{ℕ, ◌≤◌, ◌<◌}
use native.Mathlib.Decide.{dec_lt}
use native.Mathlib.Omega.{arith}
use lib.ListN.{get_or-eq_default}
use Rattle.rows.specs.Rows.{all}
use Rattle.rules.specs.Json.{node_keys_differ}
use Rattle.tables.specs.Tables.{Tables, node_count}
use Rattle.tables.specs.Rules.{rules, rule_at, rows_for, holds_at, obeyed, rows_lawful}
use Rattle.tables.specs.Defaults.{defaults_closed}
use Rattle.tables.specs.Lawful.{lawful, table_code}
use Rattle.tables.specs.declared.rule.Rule.{Rule}
use Rattle.tables.specs.declared.rule.Rule.TheVariants as rule
use Rattle.tables.specs.declared.rule.ValueRule.TheVariants as value
use Rattle.tables.proofs.Numbered.{number, numbered}
use Rattle.rows.proofs.Every.{all_at, all_each, falsified, verified}

module _ (T : Tables) where
  module _ (h : rows_lawful T ≡ true) where
    -- past the last stands the last
    numbered_obeyed : (k : ℕ) → obeyed (rule_at k) T ≡ true
    unfolding rows_lawful rule_at
    numbered_obeyed k = go (dec_lt k 46)
      where
        go : Dec (k < 46) → obeyed (rule_at k) T ≡ true
        go (yes l) = all_at (λ n. obeyed (rule_at n) T) k 46 l h
        go (no l) =
            let past : 46 ≤ k = omega arith in
            rw (get_or-eq_default rules (rule.Value value.RootAnswer) past) (all_at (λ n. obeyed (rule_at n) T) 45 46 (omega arith) h)

    pub obeyed_at : (r : Rule) → obeyed r T ≡ true
    obeyed_at r = rw (numbered r) at (numbered_obeyed (number r))

    -- a rule holds at every row that it speaks of
    pub holds_at_lem : (r : Rule) (row : ℕ) → row < rows_for r T → holds_at r T row ≡ true
    unfolding obeyed
    holds_at_lem r row l = all_at (holds_at r T) row (rows_for r T) l (obeyed_at r)

  pub all_obeyed : ((r : Rule) → obeyed r T ≡ true) → rows_lawful T ≡ true
  unfolding rows_lawful
  all_obeyed f = all_each (λ n. obeyed (rule_at n) T) 46 (λ n l. f (rule_at n))

-- the rule on the keys of nodes, looked at for all at once
pub keys_obeyed : (T : Tables) (r : Rule) → r ≡ rule.Value value.NodeKeysDiffer → all (node_keys_differ T.pool T.nodes) (node_count T) ≡ true
    → obeyed r T ≡ true
unfolding obeyed
keys_obeyed T r e h = rw e h

-- the code: a rule is broken at a row
pub code_rows : (T : Tables) (r : Bool) → r ≡ rows_lawful T → not r ≡ true → 1 ≡ table_code T
unfolding table_code lawful
code_rows T r e n = rw (falsified r (rows_lawful T) e n)

-- or a default has a variable
pub code_defaults : (T : Tables) (r s : Bool) → r ≡ rows_lawful T → not r ≡ false
    → s ≡ defaults_closed T.fields T.arguments T.literals → not s ≡ true → 1 ≡ table_code T
unfolding table_code lawful
code_defaults T r s e n f m = rw (verified r (rows_lawful T) e n, falsified s (defaults_closed T.fields T.arguments T.literals) f m)

-- or nothing is wrong
pub code_lawful : (T : Tables) (r s : Bool) → r ≡ rows_lawful T → not r ≡ false
    → s ≡ defaults_closed T.fields T.arguments T.literals → not s ≡ false → 0 ≡ table_code T
unfolding table_code lawful
code_lawful T r s e n f m = rw (verified r (rows_lawful T) e n, verified s (defaults_closed T.fields T.arguments T.literals) f m)
