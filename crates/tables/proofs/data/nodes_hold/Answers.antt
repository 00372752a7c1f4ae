-- Where no node has two keys to compare, none has two alike. Assumes nothing.
use borrow.Author.Rules.{rules}
use mathlib.Core.Path.{sym}
use Rattle.distinct.proofs.Plain.{plain_differ}
use Rattle.distinct.specs.Plain.{is_plain}
use Rattle.tables.specs.ByTable.{node_holds}
use Rattle.tables.proofs.data.nodes_hold.Goals as goal

pub returns-in-None : goal.returns-in-None
returns-in-None c =
    let seen = c.in-None.ensures (node_holds c.args.pool.now c.row_count-count.result c.args.nodes.now) (is_plain c.args.nodes.now) (λ row b k. search rules) (λ row b k. search rules) in
    rw (← c.row_count-count.ensures, seen)

pub returns-then-plain : goal.returns-then-plain
returns-then-plain c =
    let seen = c.in-Some.ensures (node_holds c.args.pool.now c.row_count-count.result c.args.nodes.now) (is_plain c.args.nodes.now) (λ row b k. search rules) (λ row b k. search rules) in
    rw (← c.row_count-count.ensures, seen.0, c.if-plain.true) (sym (plain_differ _ _ _ (seen.1 c.if-plain.true)))

pub returns-else-plain : goal.returns-else-plain
returns-else-plain c =
    let seen = c.in-Some.ensures (node_holds c.args.pool.now c.row_count-count.result c.args.nodes.now) (is_plain c.args.nodes.now) (λ row b k. search rules) (λ row b k. search rules) in
    rw (← c.row_count-count.ensures, seen.0) (rw (← c.row_count-count.ensures, c.bytes.ensures) at c.all_node_keys_differ.ensures)
