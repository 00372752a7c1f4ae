-- A segment is two words, by its kind. Assumes nothing.
use Rattle.walking.proofs.Records.{name_put, index_put}
use borrow.Author.Rules.{rules}
use Rattle.walking.proofs.record.put_path_segment.Goals as goal

pub returns-then-segment-lt-INDEX : goal.returns-then-segment-lt-INDEX
returns-then-segment-lt-INDEX c = search (name_put, rules)

pub returns : goal.returns
returns c = search (index_put, rules)
