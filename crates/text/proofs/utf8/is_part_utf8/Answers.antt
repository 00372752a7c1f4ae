-- A part of UTF-8 is UTF-8 just if it is empty, or begins and ends between characters. Assumes nothing.
use Rattle.text.proofs.utf8.Parts.{part_empty, part_inside, part_from}
use Rattle.text.proofs.utf8.is_part_utf8.Goals as goal

pub returns-then-start-end : goal.returns-then-start-end
returns-then-start-end c = search part_empty

pub returns-then-is_boundary : goal.returns-then-is_boundary
returns-then-is_boundary c = search part_from

pub returns-else-is_boundary : goal.returns-else-is_boundary
returns-else-is_boundary c = search part_inside
