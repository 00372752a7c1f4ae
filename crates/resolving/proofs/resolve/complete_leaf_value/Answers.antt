-- Too many containers, a leaf that fits, or an error. Assumes nothing.
use Rattle.resolving.proofs.LeafValues.{leaf_too_far, leaf_fits, leaf_error}
use borrow.Author.Rules.{rules}
use Rattle.resolving.proofs.resolve.complete_leaf_value.Goals as goal

pub returns-in_default : goal.returns-in_default
returns-in_default c = search leaf_too_far

pub judge_leaf-requires : goal.judge_leaf-requires
judge_leaf-requires c = search (rules, c.requires)

pub fail-requires : goal.fail-requires
fail-requires c = search (rules, c.requires)

pub returns-in-Ok : goal.returns-in-Ok
returns-in-Ok c = leaf_fits c.put_leaf.ensures c.in-Some.is c.leaf_sort-sort.ensures c.leaf_string-string.ensures c.judge_leaf.ensures c.in-Ok.is c.placed.ensures

pub shape_of-text-in-Err : goal.shape_of-text-in-Err
shape_of-text-in-Err c = search (rules, c.put_leaf.ensures)

pub returns-in-Err : goal.returns-in-Err
returns-in-Err c = leaf_error c.put_leaf.ensures c.in-Some.is c.leaf_sort-sort.ensures c.leaf_string-string.ensures c.judge_leaf.ensures c.in-Err.is (search rules)
    c.fail.ensures
