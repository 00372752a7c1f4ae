-- The array is the list of the rules. Assumes nothing.
use mathlib.Core.Path.{sym}
use native.Mathlib.Omega.{arith}
use Rattle.std.proofs.lemmas.List.{get_or_default, get_or_past}
use Rattle.tables.specs.Rules.{rules, rule_at}
use Rattle.numbering.proofs.rule_at.Goals as goal

pub returns-then-k-lt46 : goal.returns-then-k-lt46
unfolding rule_at
returns-then-k-lt46 c = get_or_default rules c.args.k _ _ (omega arith)

pub returns-else-k-lt46 : goal.returns-else-k-lt46
unfolding rule_at
returns-else-k-lt46 c = sym (get_or_past rules c.args.k _ (omega arith))
