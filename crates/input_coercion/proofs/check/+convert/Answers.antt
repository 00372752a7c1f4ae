-- Both functions, by one induction: the containers that may still be opened fall. Assumes nothing.
use borrow.Author.Rules.{rules}
use Rattle.std.proofs.lemmas.Result.{err_from_is_err_and}
use Rattle.input_coercion.proofs.Parts.{parting}
use Rattle.input_coercion.proofs.check.+convert.Goals as goal

ruleset walk = (parting, rules)

pub check_part_by_part-returns-in-Variable : goal.check_part_by_part-returns-in-Variable
check_part_by_part-returns-in-Variable t c = search walk

pub check_part_by_part-returns-in_default : goal.check_part_by_part-returns-in_default
check_part_by_part-returns-in_default t c = search walk

pub check_parts-returns-then-room-eq0 : goal.check_parts-returns-then-room-eq0
check_parts-returns-then-room-eq0 t c = search walk

pub check_parts-loop-i-init : goal.check_parts-loop-i-init
check_parts-loop-i-init t c = search walk

pub check_parts-loop-i-smaller : goal.check_parts-loop-i-smaller
check_parts-loop-i-smaller t c = search walk

pub check_parts-loop-i-preserved : goal.check_parts-loop-i-preserved
check_parts-loop-i-preserved t c = search (walk, c.in_ok-check_part_by_part.ensures)

pub check_parts-returns : goal.check_parts-returns
check_parts-returns t c = search walk

pub check_part_by_part-check_parts-requires : goal.check_part_by_part-check_parts-requires
check_part_by_part-check_parts-requires t c = search walk

pub check_part_by_part-returns-in-List : goal.check_part_by_part-returns-in-List
check_part_by_part-returns-in-List t c = search walk

pub check_parts-returns-in_err-check_part_by_part : goal.check_parts-returns-in_err-check_part_by_part
check_parts-returns-in_err-check_part_by_part t c = let p = err_from_is_err_and c.from_residual.result c.from_residual.ensures.1 in rw (p.1, p.2) (search (walk, c.in_err-check_part_by_part.ensures))
